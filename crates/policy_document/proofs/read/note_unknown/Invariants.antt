use Rattle.std.proofs.Common.{◌≡◌}
use Rattle.toml.specs.View.{table_view, members_view}
use Rattle.policy_tables.specs.Findings.{least_with}
use Rattle.policy_document.specs.Document.{unknown_keys}
use Rattle.policy_document.proofs.read.note_unknown.Given as goal

-- what is noted so far, and what the keys to come will add, is what all keys add
abbrev pub invariant-loop-key : goal.invariant-loop-key
invariant-loop-key l = record {
  path : l.notes.path ≡ l.initial.notes.path;
  least : least_with l.notes.least (unknown_keys l.shape l.initial.notes.path (members_view l.key-iterator))
      ≡ least_with l.initial.notes.least (unknown_keys l.shape l.initial.notes.path (table_view l.table));
}
