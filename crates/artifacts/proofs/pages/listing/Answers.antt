use Rattle.std.proofs.Common.{◌≤◌, ℕ, List, length, drop, sym, ap, ◌∙◌, subst}
use Rattle.std.specs.Prelude.{option_map}
use Rattle.artifacts.specs.Artifacts.{keys_of}
use Rattle.artifacts.specs.Cuts.{is_shown, stands_before}
use Rattle.lists.specs.Orders.{IsRising}
use Rattle.artifacts.specs.Orders.{places_order}
use Rattle.artifacts.specs.Pages.{IsListing}
use Rattle.artifacts.proofs.PageLemmas.{IsCut, listing_from_cuts, rising_take}
use Rattle.artifacts.proofs.pages.listing.Goals as goal

pub start_of-requires-clause-rising : goal.start_of-requires-clause-rising
start_of-requires-clause-rising c =
    let keys = keys_of c.args.rows.now in
    subst (IsRising (places_order keys)) (sym c.split_at.ensures.front)
    (rising_take (places_order keys) c.end_of.result c.args.places.now c.requires.rising)

pub returns : goal.returns
returns c =
    let rows = c.args.rows.now in
    let parent = c.args.parent.now in
    let after = option_map (λ a. a.now) c.args.after in
    let places = c.args.places.now in
    let to = c.end_of.result in
    let from = c.start_of.result in
    let front = c.split_at.ensures.front in
    let within = subst (λ (ps : List ℕ). from ≤ length ps) front c.start_of.ensures.within in
    let parts = subst (λ (ps : List ℕ). IsCut (λ place. stands_before (is_shown after) (keys_of rows) parent place) ps from) front c.start_of.ensures.parts in
    subst (λ (ps : List ℕ). IsListing rows c.args.holder parent after ps) (sym (c.split_at-2.ensures.back ∙ ap (λ (ps : List ℕ). drop from ps) front))
    (listing_from_cuts rows c.args.holder parent after places to from c.requires c.end_of.ensures.within c.end_of.ensures.parts within parts)
