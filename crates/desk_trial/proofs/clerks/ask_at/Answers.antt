use Rattle.std.proofs.Common.{◌≡◌, vec_len, arith, ap, ◌∙◌}
use Rattle.std.proofs.lemmas.Slice.Zip.{AllZip-long}
use denote.Exit.{no}
use denote.Param.Send.{arg_send, param_send}
use Rattle.service_desk.specs.Shelves.{LedSomewhere}
use Rattle.service_desk.proofs.SendLaws.{clerk_send}
use Rattle.desk_trial.specs.Seats.{first_after}
use Rattle.desk_trial.proofs.CountLaws.{all_of, all_stand, first_below, had_all}
use Rattle.desk_trial.proofs.clerks.ask_at.Goals as goal

pub ask_all-asked-requires-send-T : goal.ask_all-asked-requires-send-T
ask_all-asked-requires-send-T g c κs within =
    param_send _ _ (arg_send _ no _ (clerk_send _ _ _ _ _ _ g.D.Disk g.C.Clock c.type_bounds.sync-R c.type_bounds.send-D c.type_bounds.send-C))

pub ask_all-asked-requires-after_bounds : goal.ask_all-asked-requires-after_bounds
ask_all-asked-requires-after_bounds g c κs within =
    all_stand (λ t. t.desk.now) (λ k. k.table) (λ t. t.seat)
    (λ t. LedSomewhere g.D.Disk.told g.D.Disk.faults (λ clock. g.C.Clock.tells (g.C.Clock.state clock)) t.desk.now.start) c.args.desk.now
    c.in_ok-callers.callers.items c.in_ok-callers.ensures.seats

pub joined-requires-clause-none : goal.joined-requires-clause-none
joined-requires-clause-none g c = first_below _ (vec_len c.in_ok-callers.callers) c.in_ok-callers.ensures.count.1

pub joined-requires-clause-few : goal.joined-requires-clause-few
joined-requires-clause-few g c =
    let long = AllZip-long _ _ _ c.ask_all-asked.ensures in
    let few = c.in_ok-callers.ensures.count.0 in
    omega (arith, long, few, c.in_ok-callers.callers.ok.0, c.ask_all-asked.result.ok.0)

pub joined-requires-clause-had : goal.joined-requires-clause-had
joined-requires-clause-had g c =
    had_all (λ t. t.desk.now) (λ k. k.table) (λ t. t.seat)
    (λ t. LedSomewhere g.D.Disk.told g.D.Disk.faults (λ clock. g.C.Clock.tells (g.C.Clock.state clock)) t.desk.now.start) c.args.desk.now 1
    c.in_ok-callers.callers.items c.ask_all-asked.result.items c.in_ok-callers.ensures.seats c.ask_all-asked.ensures

pub returns-clause-stand : goal.returns-clause-stand
returns-clause-stand g c =
    let long = AllZip-long _ _ _ c.ask_all-asked.ensures in
    let few = c.in_ok-callers.ensures.count.0 in
    let same : vec_len c.in_ok-callers.callers ≡ vec_len c.ask_all-asked.result =
    omega (arith, long, c.in_ok-callers.callers.ok.0, c.ask_all-asked.result.ok.0) in
    all_of (vec_len c.ask_all-asked.result) c.joined.result.turns _ _ c.joined.ensures.stand (c.in_ok-callers.ensures.count.1 ∙ ap first_after same)
    c.joined.ensures.number.0 c.joined.ensures.number.1 (omega (arith, few, same))
