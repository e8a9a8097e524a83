use Rattle.std.proofs.Common.{◌≡◌, ◌<◌, ◌-◌, ℕ, List, [], ◌∷◌, ◌++◌, length, min, sym, ap, ◌∙◌, subst, arith}
use Rattle.std.specs.Prelude.{vec_len, vec_capacity}
use Rattle.std.proofs.lemmas.List.{length-map, length_push}
use Rattle.test_results.specs.declared.result.TestResult.{TestResult}
use Rattle.test_results.specs.Hashes.{hash_of}
use Rattle.test_results.specs.Lists.{list_of}
use Rattle.test_results.specs.Orders.{IsIndexed}
use Rattle.test_results.specs.Results.{ResultsState, HasKey, key_of, keys_of, places_in, room_for}
use Rattle.test_results.proofs.TableLemmas.{indexed_push}
use Rattle.test_results.proofs.ListLemmas.{capped_room}
use Rattle.test_results.proofs.result_rows.ResultRows.append.Goals as goal

pub push-requires : goal.push-requires
push-requires c =
    let rows = c.self.inside.rows in
    let found = c.self.inside.by_key in
    let spare = min (min (vec_capacity rows) 4_294_967_295 - vec_len rows) found.room in
    let before = subst (λ (t : ResultsState). 0 < room_for t c.args.row.holder) (sym c.self.view_is) c.requires.room in
    let least = capped_room spare c.self.inside.by_holder.rooms c.args.row.holder in
    record {
      room = omega (arith, before, least);
      few = let e = ap (λ (hs : List ℕ). length hs) c.self.invariant.0.chained in
          omega (arith, e, length-map (keys_of rows.items) hash_of, length-map rows.items key_of, c.self.invariant.1);
    }

pub push-requires-2 : goal.push-requires-2
push-requires-2 c =
    let rows = c.self.inside.rows in
    let spare = min (min (vec_capacity rows) 4_294_967_295 - vec_len rows) c.self.inside.by_key.room in
    let before = subst (λ (t : ResultsState). 0 < room_for t c.args.row.holder) (sym c.self.view_is) c.requires.room in
    omega (arith, before, capped_room spare c.self.inside.by_holder.rooms c.args.row.holder)

pub push_reserved-requires : goal.push_reserved-requires
push_reserved-requires c =
    let rows = c.self.inside.rows in
    let spare = min (min (vec_capacity rows) 4_294_967_295 - vec_len rows) c.self.inside.by_key.room in
    let before = subst (λ (t : ResultsState). 0 < room_for t c.args.row.holder) (sym c.self.view_is) c.requires.room in
    omega (arith, before, capped_room spare c.self.inside.by_holder.rooms c.args.row.holder)

pub invariant_of-self : goal.invariant_of-self
invariant_of-self c =
    let rows = c.self.inside.rows.items in
    let row = c.args.row in
    let arrived = c.self.inside.by_holder in
    let found = c.self.inside.by_key in
    let new = c.push.new.self in
    let free = subst (λ (t : ResultsState). ¬ HasKey t.rows (key_of row)) (sym c.self.view_is) c.requires.free in
    let few = subst (λ (t : ResultsState). length (places_in t.rows row.holder) < 100_000) (sym c.self.view_is) c.requires.few in
    let spare = min (min (vec_capacity c.self.inside.rows) 4_294_967_295 - vec_len c.self.inside.rows) found.room in
    let before = subst (λ (t : ResultsState). 0 < room_for t row.holder) (sym c.self.view_is) c.requires.room in
    let least = capped_room spare arrived.rooms row.holder in
    let place : c.len.result ≡ length rows = omega (arith, c.len.ensures, c.self.inside.rows.ok.0) in
    let own = c.push-2.ensures.list ∙ ap (λ p. list_of arrived row.holder ++ p ∷ []) place in
    let chained = c.push.ensures.hashes ∙ ap (λ h. found.hashes ++ h ∷ []) c.hash_of_row.ensures in (
      subst (λ (rs : List TestResult). IsIndexed rs c.push-2.new.self.lists new) (sym c.push_reserved.ensures.items)
          (indexed_push rows row arrived.lists c.push-2.new.self.lists found new c.self.invariant.0 free few own c.push-2.ensures.others chained),
      omega (arith, ap (λ (rs : List TestResult). length rs) c.push_reserved.ensures.items, length_push rows row, before, least, c.self.inside.rows.ok.0),
      c.self.invariant.2,
    )

pub returns-clause-rooms : goal.returns-clause-rooms
returns-clause-rooms c other =
    let rows = c.self.inside.rows in
    let pushed = c.push_reserved.new.self in
    let spare = min (min (vec_capacity rows) 4_294_967_295 - vec_len rows) c.self.inside.by_key.room in
    let left = min (min (vec_capacity pushed) 4_294_967_295 - vec_len pushed) c.push.new.self.room in
    let e = ap (λ (t : ResultsState). room_for t other) c.self.view_is in
    omega (
      arith,
      e,
      capped_room spare c.self.inside.by_holder.rooms other,
      capped_room left c.push-2.new.self.rooms other,
      c.push-2.ensures.room other,
      c.push.ensures.room,
      c.push_reserved.ensures.len,
      c.push_reserved.ensures.capacity,
    )
