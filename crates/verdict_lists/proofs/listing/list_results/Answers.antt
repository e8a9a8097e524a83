use Rattle.std.proofs.Common.{◌≡◌, List, ℕ, ap, ◌∙◌, subst}
use Rattle.std.specs.List.Sorted.{IsPermutation}
use Rattle.verdict_lists.specs.declared.entries.Entry.{Entry}
use Rattle.verdict_lists.specs.World.{world_of}
use Rattle.verdict_lists.specs.Groups.{results_in}
use Rattle.verdict_lists.proofs.ListingLemmas.{are_listed}
use Rattle.verdict_lists.proofs.listing.list_results.Goals as goal

pub returns : goal.returns
returns c =
    let entries = c.in_ok-entries.entries.items in
    let sorted = c.put_in_order.new.places.items in
    let places : c.in_ok-places.places.items ≡ results_in entries =
    c.in_ok-places.ensures ∙ ap (λ (es : List Entry). results_in es) c.as_slice.ensures.value in
    are_listed (world_of c.args.view.now) c.args.roots.now entries sorted c.in_ok-entries.ensures
    (subst (λ (ps : List ℕ). IsPermutation ps sorted) places c.put_in_order.ensures.permutation) c.put_in_order.ensures.sorted
