use Rattle.std.proofs.Common.{ap, subst, ◌∙◌, Option}
use Rattle.call_forms.specs.declared.forms.Answer.{Answer}
use Rattle.service_machine.specs.RequestDemands.Settings.{Settings}
use Rattle.service_machine.specs.ServiceCore.CoreState.{PlanState, world_in}
use Rattle.service_machine.specs.ServiceCore.Plans.{Carries}
use Rattle.service_machine.specs.Machines.{Plays}
use Rattle.service_machine.specs.Leading.{carries_there}
use Rattle.record_desk.proofs.RecordingLaws.{change_told, change_unrecorded, kept_weaker, not_spent, plan_told, same_standin, tries_weaker}
use Rattle.record_desk.proofs.recording.change.Goals as goal

pub returns-in-Ok-Some-clause-told : goal.returns-in-Ok-Some-clause-told
returns-in-Ok-Some-clause-told g c =
    let s : Settings = record { policy = c.args.wanted.now.policy.now } in
    let w = world_in c.args.book.now.machine.core in
    let after = world_in c.record_change.new.book.machine.core in
    change_told s w c.args.wanted.now.moment c.args.wanted.now.asked.now c.args.plan c.requires.plan after c.in-Ok-Some.field-0 c.in-Ok-Some.answer
    (subst (λ (p : PlanState). Carries w p after) c.in-Ok.ensures.plan c.in-Ok-Some.ensures.world)
    (c.in-Ok-Some.ensures.answer ∙ ap (λ (p : PlanState). p.answer) c.in-Ok.ensures.plan) c.in-Ok-Some.field-0-is

pub returns-in-Ok-Some-clause-keeps : goal.returns-in-Ok-Some-clause-keeps
returns-in-Ok-Some-clause-keeps g c =
    kept_weaker g.D.Disk.told Plays (world_in c.args.book.now.machine.core) c.args.book.now.journal _ _ (world_in c.record_change.new.book.machine.core)
    c.record_change.new.book.journal (λ next tried. absurd (let no = tried.0 in cc)) c.in-Ok-Some.ensures.keeps

pub returns-in-Err-clause-told : goal.returns-in-Err-clause-told
returns-in-Err-clause-told g c =
    let s : Settings = record { policy = c.args.wanted.now.policy.now } in
    let w = world_in c.args.book.now.machine.core in
    let there = carries_there w c.args.plan in
    change_unrecorded s w c.args.wanted.now.moment c.args.wanted.now.asked.now c.args.plan c.requires.plan c.in-Err.standin
    (world_in c.record_change.new.book.machine.core) there.0 there.1 c.in-Err.ensures.same
    (not_spent (Option Answer) c.in-Err.standin c.in-Err.ensures.unspent)

pub returns-in-Err-clause-keeps : goal.returns-in-Err-clause-keeps
returns-in-Err-clause-keeps g c =
    let s : Settings = record { policy = c.args.wanted.now.policy.now } in
    let w = world_in c.args.book.now.machine.core in
    let is = c.requires.plan in
    kept_weaker g.D.Disk.told Plays w c.args.book.now.journal _ _ (world_in c.record_change.new.book.machine.core) c.record_change.new.book.journal
    (λ next tried. (
      same_standin (Option Answer) c.in-Err.standin tried.0,
      (
        is.answer,
        plan_told s w c.args.wanted.now.moment c.args.wanted.now.asked.now c.args.plan is next
            (subst (λ (p : PlanState). Carries w p next) c.in-Ok.ensures.plan tried.1),
      ),
    )) c.in-Err.ensures.keeps

pub returns-in-Ok-Some-clause-any_moment : goal.returns-in-Ok-Some-clause-any_moment
returns-in-Ok-Some-clause-any_moment g c =
    let s : Settings = record { policy = c.args.wanted.now.policy.now } in
    let w = world_in c.args.book.now.machine.core in
    let is = c.requires.plan in
    tries_weaker g.D.Disk.told Plays w c.args.book.now.journal _ _ c.record_change.new.book.journal
    (λ next tried. (
      is.answer,
      plan_told s w c.args.wanted.now.moment c.args.wanted.now.asked.now c.args.plan is next
          (subst (λ (p : PlanState). Carries w p next) c.in-Ok.ensures.plan tried),
    )) c.record_change.ensures.any_moment

pub returns-in-Err-clause-any_moment : goal.returns-in-Err-clause-any_moment
returns-in-Err-clause-any_moment g c =
    let s : Settings = record { policy = c.args.wanted.now.policy.now } in
    let w = world_in c.args.book.now.machine.core in
    let is = c.requires.plan in
    tries_weaker g.D.Disk.told Plays w c.args.book.now.journal _ _ c.record_change.new.book.journal
    (λ next tried. (
      is.answer,
      plan_told s w c.args.wanted.now.moment c.args.wanted.now.asked.now c.args.plan is next
          (subst (λ (p : PlanState). Carries w p next) c.in-Ok.ensures.plan tried),
    )) c.record_change.ensures.any_moment
