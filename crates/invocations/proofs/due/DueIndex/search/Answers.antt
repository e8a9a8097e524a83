use Rattle.std.proofs.Common.{◌≡◌, length, subst}
use Rattle.std.specs.List.Sorted.{IsSearchInRange}
use Rattle.lists.proofs.OrderLemmas.{slot_from_search}
use Rattle.invocations.proofs.OrderedRows.{due_order_total}
use Rattle.invocations.specs.declared.due.Due.{Due}
use Rattle.invocations.proofs.due.DueIndex.search.Goals as goal

pub returns : goal.returns
returns c =
    let entries = c.args.self.now.entries in
    let count : entries.len ≡ length entries.items = entries.ok.0 in
    slot_from_search due_order_total (λ (e : Due). e) entries.items c.args.due.now c.binary_search.result c.requires
    (subst (IsSearchInRange c.binary_search.result) count c.binary_search.ensures.bound) c.binary_search.ensures.position
