use Rattle.std.proofs.Common.{◌≡◌, ◌<◌, ◌≤◌, ◌-◌, List, Less, Greater, length, min, sym, ap, ◌∙◌, subst, arith, ℕ}
use Rattle.std.specs.Prelude.{vec_len, vec_capacity}
use Rattle.std.specs.List.{insert}
use Rattle.std.specs.List.Sorted.{IsPartitionPoint}
use Rattle.std.proofs.lemmas.List.{length_push}
use Rattle.artifacts.specs.declared.artifact.Artifact.{Artifact}
use Rattle.artifacts.specs.Lists.{list_of}
use Rattle.artifacts.specs.Orders.{IsIndexed, IsKeyIndex, order_at}
use Rattle.artifacts.specs.Artifacts.{ArtifactsState, HasKey, key_of, keys_of, places_in, room_for}
use Rattle.artifacts.proofs.TableLemmas.{indexed_push}
use Rattle.artifacts.proofs.ListLemmas.{least_room}
use Rattle.artifacts.proofs.artifact_rows.ArtifactRows.append.Goals as goal

pub slot_of-slot-requires-clause-index : goal.slot_of-slot-requires-clause-index
slot_of-slot-requires-clause-index c =
    let holder = c.args.row.holder in
    subst (λ (rs : List Artifact). IsKeyIndex (keys_of rs) holder c.list.result.now) (sym c.as_slice.ensures.value)
    (subst (λ (ps : List ℕ). IsKeyIndex (keys_of c.self.inside.rows.items) holder ps) (sym c.list.ensures) (c.self.invariant.0.index holder))

pub slot_of-slot-requires-clause-free : goal.slot_of-slot-requires-clause-free
slot_of-slot-requires-clause-free c =
    subst (λ (rs : List Artifact). ¬ HasKey rs (key_of c.args.row)) (sym (c.as_slice.ensures.value ∙ ap (λ (t : ArtifactsState). t.rows) c.self.view_is)) c.requires.free

pub insert-requires : goal.insert-requires
insert-requires c =
    let holder = c.args.row.holder in
    let spare = min (vec_capacity c.self.inside.rows) 4_294_967_295 - vec_len c.self.inside.rows in
    let before = subst (λ (t : ArtifactsState). 0 < room_for t holder) (sym c.self.view_is) c.requires.room in
    let least = least_room spare c.self.inside.by_holder.rooms c.self.inside.by_name.rooms holder in
    record {
      within = subst (λ (ps : List ℕ). c.slot_of-slot.result ≤ length ps) c.list.ensures c.slot_of-slot.ensures.within;
      room = omega (arith, before, least);
    }

pub insert-requires-2 : goal.insert-requires-2
insert-requires-2 c =
    let holder = c.args.row.holder in
    let spare = min (vec_capacity c.self.inside.rows) 4_294_967_295 - vec_len c.self.inside.rows in
    let before = subst (λ (t : ArtifactsState). 0 < room_for t holder) (sym c.self.view_is) c.requires.room in
    let least = least_room spare c.self.inside.by_holder.rooms c.self.inside.by_name.rooms holder in
    record {
      within = let e = ap (λ (ps : List ℕ). length ps) c.list-end.ensures in omega (arith, e);
      room = omega (arith, before, least);
    }

pub push_reserved-requires : goal.push_reserved-requires
push_reserved-requires c =
    let holder = c.args.row.holder in
    let spare = min (vec_capacity c.self.inside.rows) 4_294_967_295 - vec_len c.self.inside.rows in
    let before = subst (λ (t : ArtifactsState). 0 < room_for t holder) (sym c.self.view_is) c.requires.room in
    omega (arith, before, least_room spare c.self.inside.by_holder.rooms c.self.inside.by_name.rooms holder)

pub invariant_of-self : goal.invariant_of-self
invariant_of-self c =
    let rows = c.self.inside.rows.items in
    let row = c.args.row in
    let holder = row.holder in
    let arrived = c.self.inside.by_holder in
    let named = c.self.inside.by_name in
    let free = subst (λ (t : ArtifactsState). ¬ HasKey t.rows (key_of row)) (sym c.self.view_is) c.requires.free in
    let few = subst (λ (t : ArtifactsState). length (places_in t.rows holder) < 100_000) (sym c.self.view_is) c.requires.few in
    let spare = min (vec_capacity c.self.inside.rows) 4_294_967_295 - vec_len c.self.inside.rows in
    let before = subst (λ (t : ArtifactsState). 0 < room_for t holder) (sym c.self.view_is) c.requires.room in
    let least = least_room spare arrived.rooms named.rooms holder in
    let place : c.len-place.result ≡ length rows = omega (arith, c.len-place.ensures, c.self.inside.rows.ok.0) in
    let own = c.insert-2.ensures.list ∙ ap (λ (ps : List ℕ). insert (list_of arrived holder) (length ps) c.len-place.result) c.list-end.ensures
    ∙ ap (λ p. insert (list_of arrived holder) (length (list_of arrived holder)) p) place in
    let within = subst (λ (ps : List ℕ). c.slot_of-slot.result ≤ length ps) c.list.ensures c.slot_of-slot.ensures.within in
    let parts = subst (λ (rs : List Artifact).
    IsPartitionPoint (λ y. order_at (keys_of rs) (key_of row) y ≡ Less) (λ y. order_at (keys_of rs) (key_of row) y ≡ Greater) (list_of named holder) c.slot_of-slot.result)
    c.as_slice.ensures.value
    (subst (λ (ps : List ℕ).
    IsPartitionPoint (λ y. order_at (keys_of c.as_slice.result.now) (key_of row) y ≡ Less) (λ y. order_at (keys_of c.as_slice.result.now) (key_of row) y ≡ Greater) ps c.slot_of-slot.result)
    c.list.ensures c.slot_of-slot.ensures.parts) in
    let own_ = c.insert.ensures.list ∙ ap (λ p. insert (list_of named holder) c.slot_of-slot.result p) place in (
      subst (λ (rs : List Artifact). IsIndexed rs c.insert-2.new.self.lists c.insert.new.self.lists) (sym c.push_reserved.ensures.items)
          (indexed_push rows row arrived.lists c.insert-2.new.self.lists named.lists c.insert.new.self.lists c.slot_of-slot.result
          c.self.invariant.0 free c.requires.hashed few own c.insert-2.ensures.others within parts own_ c.insert.ensures.others),
      omega (arith, ap (λ (rs : List Artifact). length rs) c.push_reserved.ensures.items, length_push rows row, before, least, c.self.inside.rows.ok.0),
      c.self.invariant.2,
    )

pub returns-clause-rooms : goal.returns-clause-rooms
returns-clause-rooms c other =
    let spare = min (vec_capacity c.self.inside.rows) 4_294_967_295 - vec_len c.self.inside.rows in
    let left = min (vec_capacity c.push_reserved.new.self) 4_294_967_295 - vec_len c.push_reserved.new.self in
    let e = ap (λ (t : ArtifactsState). room_for t other) c.self.view_is in
    omega (
      arith,
      e,
      least_room spare c.self.inside.by_holder.rooms c.self.inside.by_name.rooms other,
      least_room left c.insert-2.new.self.rooms c.insert.new.self.rooms other,
      c.insert.ensures.room other,
      c.insert-2.ensures.room other,
      c.push_reserved.ensures.len,
      c.push_reserved.ensures.capacity,
    )
