use Rattle.std.proofs.Common.{ℕ, ◌^◌, ◌<◌, List, length, sym, subst}
use Rattle.service_replay.specs.RequestDemands.Settings.{Settings}
use Rattle.service_replay.proofs.RequestDemands.PolicyLaws.{names_of_sound}
use Rattle.service_replay.specs.ServiceCore.CoreState.{world_in}
use Rattle.service_machine.specs.Machines.{IsCommandOf}
use Rattle.service_machine.proofs.PlanFacts.{change_fits, kind_found}
use Rattle.service_machine.proofs.plans.RecordedPlan.change.Goals as goal

pub call_of-call-requires-clause-kind : goal.call_of-call-requires-clause-kind
call_of-call-requires-clause-kind c =
    let s : Settings = record { policy = c.args.wanted.now.policy.now } in
    kind_found s (world_in c.args.core.now) c.args.wanted.now.moment c.args.wanted.now.asked.now c.args.plan
    (names_of_sound s.policy c.tables.ensures.sound) c.requires.timely c.requires.plan

pub returns-clause-fits : goal.returns-clause-fits
returns-clause-fits c =
    let s : Settings = record { policy = c.args.wanted.now.policy.now } in
    let moment = c.args.wanted.now.moment in
    let asked = c.args.wanted.now.asked.now in
    let command = c.in_ok-command.command in
    change_fits s c.args.core.now moment asked c.args.plan command (names_of_sound s.policy c.tables.ensures.sound) c.requires.timely
    (subst (λ (body : List ℕ). length body < 2 ^ 32) c.call_of-call.ensures.body c.in_ok-command.ensures.short) c.requires.plan
    c.requires.fits
    (subst (IsCommandOf s moment asked) (sym c.in_ok-command.ensures.command) c.call_of-call.ensures.call)
    c.in_ok-command.ensures.body
