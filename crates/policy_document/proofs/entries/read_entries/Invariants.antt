use Rattle.std.proofs.Common.{◌≡◌, ◌++◌}
use Rattle.toml.specs.View.{table_view, members_view}
use Rattle.policy_tables.specs.Findings.{least_with}
use Rattle.policy_document.specs.Document.{entries_of, entries_findings}
use Rattle.policy_document.proofs.entries.read_entries.Given as goal

-- what is read and noted so far, with what is to come, is that of the whole table
abbrev pub invariant-loop-key : goal.invariant-loop-key
invariant-loop-key g l = record {
  path : l.notes.path ≡ l.initial.notes.path;
  entries : l.entries.items ++ entries_of g.E.Entry.entry (members_view l.key-iterator) ≡ entries_of g.E.Entry.entry (table_view l.table);
  least : least_with l.notes.least (entries_findings g.E.Entry.findings l.initial.notes.path (members_view l.key-iterator))
      ≡ least_with l.initial.notes.least (entries_findings g.E.Entry.findings l.initial.notes.path (table_view l.table));
}
