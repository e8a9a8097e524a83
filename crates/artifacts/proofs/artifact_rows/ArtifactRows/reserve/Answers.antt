use Rattle.std.proofs.Common.{◌≤◌, ◌-◌, min, ap, arith}
use Rattle.std.specs.Prelude.{slice_index_or, vec_len, vec_capacity}
use Rattle.artifacts.specs.Lists.{room_of}
use Rattle.artifacts.specs.Orders.{least_rooms}
use Rattle.artifacts.specs.Artifacts.{ArtifactsState, room_for}
use Rattle.artifacts.proofs.ListLemmas.{least_room, on_ok}
use Rattle.artifacts.proofs.artifact_rows.ArtifactRows.reserve.Goals as goal

pub returns-clause-rooms : goal.returns-clause-rooms
returns-clause-rooms c other =
    let spare = min (vec_capacity c.self.inside.rows) 4_294_967_295 - vec_len c.self.inside.rows in
    let left = min (vec_capacity c.reserve.new.self) 4_294_967_295 - vec_len c.reserve.new.self in
    let e = ap (λ (t : ArtifactsState). room_for t other) c.self.view_is in
    omega (
      arith,
      e,
      least_room spare c.self.inside.by_holder.rooms c.self.inside.by_name.rooms other,
      least_room left c.reserve-2.new.self.rooms c.reserve-3.new.self.rooms other,
      c.reserve-2.ensures.room other,
      c.reserve-3.ensures.room other,
      c.reserve.ensures.len,
      c.reserve.ensures.capacity,
    )

pub returns-clause-enough : goal.returns-clause-enough
returns-clause-enough c =
    let holder = c.args.holder in
    let arrived = c.reserve-2.new.self in
    let named = c.reserve-3.new.self in
    let left = min (vec_capacity c.reserve.new.self) 4_294_967_295 - vec_len c.reserve.new.self in
    let room : c.args.additional ≤ left = omega (arith, c.reserve.ensures.len, c.in_ok-reserve.ensures.ok, c.self.inside.rows.ok.0) in
    let first : c.args.additional ≤ room_of arrived holder = c.in_ok-reserve-2.ensures.enough in
    on_ok c.reserve-3.result (c.args.additional ≤ room_of named holder)
    (c.args.additional ≤ slice_index_or (least_rooms left arrived.rooms named.rooms) holder 0)
    c.reserve-3.ensures.enough (λ ok. omega (arith, ok, room, first, least_room left arrived.rooms named.rooms holder))

pub returns-in_err-reserve-2-clause-rooms : goal.returns-in_err-reserve-2-clause-rooms
returns-in_err-reserve-2-clause-rooms c other =
    let spare = min (vec_capacity c.self.inside.rows) 4_294_967_295 - vec_len c.self.inside.rows in
    let left = min (vec_capacity c.reserve.new.self) 4_294_967_295 - vec_len c.reserve.new.self in
    let e = ap (λ (t : ArtifactsState). room_for t other) c.self.view_is in
    omega (
      arith,
      e,
      least_room spare c.self.inside.by_holder.rooms c.self.inside.by_name.rooms other,
      least_room left c.reserve-2.new.self.rooms c.self.inside.by_name.rooms other,
      c.reserve-2.ensures.room other,
      c.reserve.ensures.len,
      c.reserve.ensures.capacity,
    )
