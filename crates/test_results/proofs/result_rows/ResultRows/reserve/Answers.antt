use Rattle.std.proofs.Common.{◌≤◌, ◌-◌, min, ap, arith}
use Rattle.std.specs.Prelude.{slice_index_or, vec_len, vec_capacity}
use Rattle.test_results.specs.Lists.{least_rooms, room_of}
use Rattle.test_results.specs.Results.{ResultsState, room_for}
use Rattle.test_results.proofs.ListLemmas.{capped_room, on_ok}
use Rattle.test_results.proofs.result_rows.ResultRows.reserve.Goals as goal

pub returns-in_err-reserve-2-clause-rooms : goal.returns-in_err-reserve-2-clause-rooms
returns-in_err-reserve-2-clause-rooms c other =
    let rows = c.self.inside.rows in
    let more = c.reserve.new.self in
    let spare = min (min (vec_capacity rows) 4_294_967_295 - vec_len rows) c.self.inside.by_key.room in
    let left = min (min (vec_capacity more) 4_294_967_295 - vec_len more) c.reserve-2.new.self.room in
    let e = ap (λ (t : ResultsState). room_for t other) c.self.view_is in
    omega (
      arith,
      e,
      capped_room spare c.self.inside.by_holder.rooms other,
      capped_room left c.self.inside.by_holder.rooms other,
      c.reserve-2.ensures.room,
      c.reserve.ensures.len,
      c.reserve.ensures.capacity,
    )

pub returns-clause-rooms : goal.returns-clause-rooms
returns-clause-rooms c other =
    let rows = c.self.inside.rows in
    let more = c.reserve.new.self in
    let spare = min (min (vec_capacity rows) 4_294_967_295 - vec_len rows) c.self.inside.by_key.room in
    let left = min (min (vec_capacity more) 4_294_967_295 - vec_len more) c.reserve-2.new.self.room in
    let e = ap (λ (t : ResultsState). room_for t other) c.self.view_is in
    omega (
      arith,
      e,
      capped_room spare c.self.inside.by_holder.rooms other,
      capped_room left c.reserve-3.new.self.rooms other,
      c.reserve-3.ensures.room other,
      c.reserve-2.ensures.room,
      c.reserve.ensures.len,
      c.reserve.ensures.capacity,
    )

pub returns-clause-enough : goal.returns-clause-enough
returns-clause-enough c =
    let holder = c.args.holder in
    let lists = c.reserve-3.new.self in
    let more = c.reserve.new.self in
    let left = min (min (vec_capacity more) 4_294_967_295 - vec_len more) c.reserve-2.new.self.room in
    let room : c.args.additional ≤ left = omega (arith, c.reserve.ensures.len, c.in_ok-reserve.ensures.ok, c.self.inside.rows.ok.0, c.in_ok-reserve-2.ensures.enough) in
    on_ok c.reserve-3.result (c.args.additional ≤ room_of lists holder) (c.args.additional ≤ slice_index_or (least_rooms left lists.rooms) holder 0)
    c.reserve-3.ensures.enough (λ ok. omega (arith, ok, room, capped_room left lists.rooms holder))
