use Rattle.std.proofs.Common.{◌≤◌, ◌-◌, min, ap, arith}
use Rattle.std.specs.Prelude.{vec_len, vec_capacity}
use Rattle.test_results.specs.Lists.{least_rooms, room_of}
use Rattle.test_results.specs.Exonerations.{ExonerationsState, room_for}
use Rattle.std.specs.Prelude.{slice_index_or}
use Rattle.test_results.proofs.ListLemmas.{capped_room, on_ok}
use Rattle.test_results.proofs.exoneration_rows.ExonerationRows.reserve.Goals as goal

pub returns-clause-rooms : goal.returns-clause-rooms
returns-clause-rooms c other =
    let spare = min (vec_capacity c.self.inside.rows) 4_294_967_295 - vec_len c.self.inside.rows in
    let left = min (vec_capacity c.reserve.new.self) 4_294_967_295 - vec_len c.reserve.new.self in
    let e = ap (λ (t : ExonerationsState). room_for t other) c.self.view_is in
    omega (
      arith,
      e,
      capped_room spare c.self.inside.by_holder.rooms other,
      capped_room left c.reserve-2.new.self.rooms other,
      c.reserve-2.ensures.room other,
      c.reserve.ensures.len,
      c.reserve.ensures.capacity,
    )

pub returns-clause-enough : goal.returns-clause-enough
returns-clause-enough c =
    let holder = c.args.holder in
    let lists = c.reserve-2.new.self in
    let left = min (vec_capacity c.reserve.new.self) 4_294_967_295 - vec_len c.reserve.new.self in
    let room : c.args.additional ≤ left = omega (arith, c.reserve.ensures.len, c.in_ok-reserve.ensures.ok, c.self.inside.rows.ok.0) in
    on_ok c.reserve-2.result (c.args.additional ≤ room_of lists holder) (c.args.additional ≤ slice_index_or (least_rooms left lists.rooms) holder 0)
    c.reserve-2.ensures.enough (λ ok. omega (arith, ok, room, capped_room left lists.rooms holder))
