use Rattle.std.proofs.Common.{List, ℕ, ◌≡◌, ap, ◌∙◌, subst}
use Rattle.std.specs.List.Sorted.{IsPermutation}
use Rattle.verdict_lists.specs.declared.entries.Entry.{Entry}
use Rattle.verdict_lists.specs.World.{world_of}
use Rattle.verdict_lists.specs.Entries.{entries_of}
use Rattle.verdict_lists.proofs.EntryLemmas.{are_reached}
use Rattle.verdict_lists.proofs.entries.reached.Goals as goal

pub returns : goal.returns
returns c =
    let world = world_of c.args.view.now in
    let nodes = c.in_ok-holders.holders.items in
    let held : c.in_ok-entries.entries.items ≡ entries_of world nodes =
    c.in_ok-entries.ensures ∙ ap (λ (ns : List ℕ). entries_of world ns) c.as_slice.ensures.value in
    are_reached world c.args.roots.now nodes c.put_in_order.new.entries.items c.in_ok-holders.ensures.all c.in_ok-holders.ensures.rising
    (subst (λ (es : List Entry). IsPermutation es c.put_in_order.new.entries.items) held c.put_in_order.ensures.permutation)
    c.put_in_order.ensures.sorted
