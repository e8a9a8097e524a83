use Rattle.std.proofs.Common.{◌≡◌, ◌<◌, ◌-◌, List, [], ◌∷◌, ◌++◌, length, min, sym, ap, ◌∙◌, subst, arith}
use Rattle.std.specs.Prelude.{vec_len, vec_capacity}
use Rattle.std.proofs.lemmas.List.{length_push}
use Rattle.test_results.specs.declared.exoneration.TestExoneration.{TestExoneration}
use Rattle.test_results.specs.Lists.{list_of}
use Rattle.test_results.specs.Exonerations.{ExonerationsState, IsIndexed, IsPlaced, places_in, room_for}
use Rattle.test_results.proofs.ExonerationLemmas.{indexed_push}
use Rattle.test_results.proofs.ListLemmas.{capped_room}
use Rattle.test_results.proofs.exoneration_rows.ExonerationRows.append.Goals as goal

pub push-requires : goal.push-requires
push-requires c =
    let holder = c.args.row.holder in
    let spare = min (vec_capacity c.self.inside.rows) 4_294_967_295 - vec_len c.self.inside.rows in
    let before = subst (λ (t : ExonerationsState). 0 < room_for t holder) (sym c.self.view_is) c.requires.room in
    omega (arith, before, capped_room spare c.self.inside.by_holder.rooms holder)

pub push_reserved-requires : goal.push_reserved-requires
push_reserved-requires c =
    let holder = c.args.row.holder in
    let spare = min (vec_capacity c.self.inside.rows) 4_294_967_295 - vec_len c.self.inside.rows in
    let before = subst (λ (t : ExonerationsState). 0 < room_for t holder) (sym c.self.view_is) c.requires.room in
    omega (arith, before, capped_room spare c.self.inside.by_holder.rooms holder)

pub invariant_of-self : goal.invariant_of-self
invariant_of-self c =
    let rows = c.self.inside.rows.items in
    let row = c.args.row in
    let holder = row.holder in
    let lists = c.self.inside.by_holder in
    let new = c.push.new.self in
    let few = subst (λ (t : ExonerationsState). length (places_in t.rows holder) < 100_000) (sym c.self.view_is) c.requires.few in
    let placed = subst (λ (t : ExonerationsState). IsPlaced t.rows row) (sym c.self.view_is) c.requires.placed in
    let spare = min (vec_capacity c.self.inside.rows) 4_294_967_295 - vec_len c.self.inside.rows in
    let before = subst (λ (t : ExonerationsState). 0 < room_for t holder) (sym c.self.view_is) c.requires.room in
    let least = capped_room spare lists.rooms holder in
    let place : c.len-place.result ≡ length rows = omega (arith, c.len-place.ensures, c.self.inside.rows.ok.0) in
    let own = c.push.ensures.list ∙ ap (λ p. list_of lists holder ++ p ∷ []) place in (
      subst (λ (rs : List TestExoneration). IsIndexed rs new.lists) (sym c.push_reserved.ensures.items)
          (indexed_push rows row lists.lists new.lists c.self.invariant.0 few placed own c.push.ensures.others),
      omega (arith, ap (λ (rs : List TestExoneration). length rs) c.push_reserved.ensures.items, length_push rows row, before, least, c.self.inside.rows.ok.0),
    )

pub returns-clause-rooms : goal.returns-clause-rooms
returns-clause-rooms c other =
    let spare = min (vec_capacity c.self.inside.rows) 4_294_967_295 - vec_len c.self.inside.rows in
    let left = min (vec_capacity c.push_reserved.new.self) 4_294_967_295 - vec_len c.push_reserved.new.self in
    let e = ap (λ (t : ExonerationsState). room_for t other) c.self.view_is in
    omega (
      arith,
      e,
      capped_room spare c.self.inside.by_holder.rooms other,
      capped_room left c.push.new.self.rooms other,
      c.push.ensures.room other,
      c.push_reserved.ensures.len,
      c.push_reserved.ensures.capacity,
    )
