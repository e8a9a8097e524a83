use Rattle.std.proofs.Common.{◌≡◌, [], length, vec_len, arith, ap, ◌∙◌}
use denote.Exit.{no}
use denote.Param.Send.{arg_send, param_send}
use Rattle.service_desk.specs.Shelves.{LedSomewhere}
use Rattle.served_desk.proofs.AttendLaws.{all_stand, as_many_back, none_asked, own_again, served_so, unasked_so}
use Rattle.service_desk.proofs.SendLaws.{clerk_send}
use Rattle.served_desk.proofs.serving.attend.Goals as goal

pub returns-in_default-clause-unasked : goal.returns-in_default-clause-unasked
returns-in_default-clause-unasked g c =
    let left = c.unasked in
    none_asked left.result.sum left.result.doors.items c.args.doors.items left.result.seat.knows c.args.first.knows (ap (λ d. d.items) left.ensures.doors)
    left.ensures.seat.1 c.requires.own.1

pub returns-in_default-with_capacity-clause-unasked : goal.returns-in_default-with_capacity-clause-unasked
returns-in_default-with_capacity-clause-unasked g c =
    let left = c.unasked-in_default-with_capacity in
    none_asked left.result.sum left.result.doors.items c.args.doors.items left.result.seat.knows c.args.first.knows (ap (λ d. d.items) left.ensures.doors)
    left.ensures.seat.1 c.requires.own.1

pub work-workers-requires-send-T : goal.work-workers-requires-send-T
work-workers-requires-send-T g c κs within =
    param_send _ _ (arg_send _ no _ (clerk_send _ _ _ _ _ _ g.D.Disk g.C.Clock c.type_bounds.sync-R c.type_bounds.send-D c.type_bounds.send-C))

pub work-workers-requires-clause-stands : goal.work-workers-requires-clause-stands
work-workers-requires-clause-stands g c κs within =
    let made = c.in-Ok-workers_of in
    all_stand g.A.Door.tells g.A.L.Link.ends g.A.L.Link.holds (λ t. []) (λ t. t.desk.now) (λ k. k.table) (λ t. t.seat)
    (λ t. LedSomewhere g.D.Disk.told g.D.Disk.faults (λ clock. g.C.Clock.tells (g.C.Clock.state clock)) t.desk.now.start) c.args.desk.now
    (vec_len c.args.doors) made.workers.items made.ensures.desk made.ensures.seats

pub gathered-doors-requires-clause-some : goal.gathered-doors-requires-clause-some
gathered-doors-requires-clause-some g c =
    let made = c.in-Ok-workers_of in
    let long : length c.work-workers.result.0.items ≡ length c.args.doors.items =
    as_many_back g.A.Door.tells g.A.L.Link.ends g.A.L.Link.holds (λ t. []) (λ t. t.desk.now) (λ k. k.table) (λ t. t.seat)
    (λ t. LedSomewhere g.D.Disk.told g.D.Disk.faults (λ clock. g.C.Clock.tells (g.C.Clock.state clock)) t.desk.now.start) c.args.desk.now
    (vec_len c.args.doors) made.workers.items made.ensures.desk made.ensures.seats c.work-workers.result.0.items c.work-workers.result.1
    c.work-workers.ensures.worked c.work-workers.ensures.unasked c.args.doors.items made.ensures.doors in
    omega (arith, long, c.requires.some.0, c.args.doors.ok.0, c.work-workers.result.0.ok.0)

pub gathered-doors-requires-clause-room : goal.gathered-doors-requires-clause-room
gathered-doors-requires-clause-room g c =
    let made = c.in-Ok-workers_of in
    let long : length c.work-workers.result.0.items ≡ length c.args.doors.items =
    as_many_back g.A.Door.tells g.A.L.Link.ends g.A.L.Link.holds (λ t. []) (λ t. t.desk.now) (λ k. k.table) (λ t. t.seat)
    (λ t. LedSomewhere g.D.Disk.told g.D.Disk.faults (λ clock. g.C.Clock.tells (g.C.Clock.state clock)) t.desk.now.start) c.args.desk.now
    (vec_len c.args.doors) made.workers.items made.ensures.desk made.ensures.seats c.work-workers.result.0.items c.work-workers.result.1
    c.work-workers.ensures.worked c.work-workers.ensures.unasked c.args.doors.items made.ensures.doors in (
      c.in-Ok-with_capacity.ensures.items,
      omega (arith, long, c.in-Ok-with_capacity.ensures.capacity, c.len-2.ensures, c.args.doors.ok.0, c.work-workers.result.0.ok.0),
    )

pub gathered-doors-requires-clause-own : goal.gathered-doors-requires-clause-own
gathered-doors-requires-clause-own g c =
    let made = c.in-Ok-workers_of in
    own_again g.A.Door.tells g.A.L.Link.ends g.A.L.Link.holds (λ t. []) (λ t. t.desk.now) (λ k. k.table) (λ t. t.seat)
    (λ t. LedSomewhere g.D.Disk.told g.D.Disk.faults (λ clock. g.C.Clock.tells (g.C.Clock.state clock)) t.desk.now.start) c.args.desk.now
    (vec_len c.args.doors) made.workers.items made.ensures.desk made.ensures.seats c.work-workers.result.0.items c.work-workers.result.1
    c.work-workers.ensures.worked c.work-workers.ensures.unasked

pub returns-in-Ok-workers_of-clause-served : goal.returns-in-Ok-workers_of-clause-served
returns-in-Ok-workers_of-clause-served g c =
    let made = c.in-Ok-workers_of in
    served_so g.A.Door.tells g.A.L.Link.ends g.A.L.Link.holds (λ t. []) (λ t. t.desk.now) (λ k. k.table) (λ t. t.seat)
    (λ t. LedSomewhere g.D.Disk.told g.D.Disk.faults (λ clock. g.C.Clock.tells (g.C.Clock.state clock)) t.desk.now.start) c.args.desk.now
    (vec_len c.args.doors) made.workers.items made.ensures.desk made.ensures.seats c.work-workers.result.0.items c.work-workers.result.1
    c.work-workers.ensures.worked c.work-workers.ensures.unasked c.args.doors.items c.gathered-doors.result.0.items c.gathered-doors.result.1.knows
    made.ensures.doors c.requires.some.0 c.requires.some.1 (omega (arith, c.args.doors.ok.0)) c.gathered-doors.ensures.doors c.gathered-doors.ensures.joined

pub returns-in-Ok-workers_of-clause-unasked : goal.returns-in-Ok-workers_of-clause-unasked
returns-in-Ok-workers_of-clause-unasked g c =
    let made = c.in-Ok-workers_of in
    unasked_so g.A.Door.tells g.A.L.Link.ends g.A.L.Link.holds (λ t. []) (λ t. t.desk.now) (λ k. k.table) (λ t. t.seat)
    (λ t. LedSomewhere g.D.Disk.told g.D.Disk.faults (λ clock. g.C.Clock.tells (g.C.Clock.state clock)) t.desk.now.start) c.args.desk.now
    (vec_len c.args.doors) made.workers.items made.ensures.desk made.ensures.seats c.work-workers.result.0.items c.work-workers.result.1
    c.work-workers.ensures.worked c.work-workers.ensures.unasked c.args.doors.items c.gathered-doors.result.0.items c.gathered-doors.result.1.knows
    made.ensures.doors c.requires.some.0 c.requires.some.1 (omega (arith, c.args.doors.ok.0)) c.gathered-doors.ensures.doors c.gathered-doors.ensures.joined

pub returns-in-Err-clause-unasked : goal.returns-in-Err-clause-unasked
returns-in-Err-clause-unasked g c =
    let left = c.unasked-in-Err in
    none_asked left.result.sum left.result.doors.items c.args.doors.items left.result.seat.knows c.args.first.knows
    (ap (λ d. d.items) left.ensures.doors ∙ c.in-Err.ensures.memory.2) (left.ensures.seat.1 ∙ c.in-Err.ensures.memory.1) c.requires.own.1
