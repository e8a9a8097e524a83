use Rattle.std.proofs.Common.{◌≡◌, ◌++◌, drop}
use Rattle.toml.specs.View.{items_view}
use Rattle.policy_tables.specs.Findings.{least_with}
use Rattle.policy_document.specs.Document.{item_bindings, item_bindings_findings}
use Rattle.policy_document.proofs.entries.read_binding_items.Given as goal

-- what is read and noted so far, with what is to come, is that of the whole list
abbrev pub invariant-loop-place : goal.invariant-loop-place
invariant-loop-place l = record {
  path : l.notes.path ≡ l.initial.notes.path;
  bindings : l.bindings.items ++ item_bindings (items_view (drop l.place l.array.items)) ≡ item_bindings (items_view l.array.items);
  least : least_with l.notes.least (item_bindings_findings l.initial.notes.path l.place (items_view (drop l.place l.array.items)))
      ≡ least_with l.initial.notes.least (item_bindings_findings l.initial.notes.path 0 (items_view l.array.items));
}
