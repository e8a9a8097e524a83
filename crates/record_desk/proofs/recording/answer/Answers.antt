use Rattle.std.proofs.Common.{◌≡◌, subst}
use Rattle.call_forms.specs.declared.forms.Answer.{Answer}
use Rattle.call_forms.specs.declared.forms.Standin.TheVariants.{Unavailable}
use Rattle.call_forms.specs.declared.forms.Told.TheVariants.{Standin as Instead}
use Rattle.service_machine.specs.RequestDemands.Settings.{Settings}
use Rattle.service_machine.specs.ServiceEffects.Service.{ServiceWorld}
use Rattle.service_machine.specs.ServiceCore.CoreState.{world_in}
use Rattle.service_machine.specs.ServiceCore.Plans.{IsPrepared}
use Rattle.service_machine.specs.ServiceCore.Step.{IsTold, performed, refused, repeated}
use Rattle.service_machine.proofs.ServiceCore.PlanLaws.{same_world, told_at_once}
use Rattle.service_machine.specs.Machines.{Plays}
use Rattle.record_desk.specs.Recording.{KeepsBook, TriesAtMost}
use Rattle.record_desk.proofs.recording.answer.Goals as goal

pub prepare-requires-clause-understood : goal.prepare-requires-clause-understood
prepare-requires-clause-understood g c =
    let here = rw c.in-Ok.is at c.requires.understood in
    (c.args.wanted.now.asked.now, here)

pub change-requires-clause-plan : goal.change-requires-clause-plan
change-requires-clause-plan g c =
    let s : Settings = record { policy = c.args.wanted.now.policy.now } in
    let here = rw c.in-Ok.is at c.requires.understood in
    let both = subst (IsPrepared s c.prepare.new.self c.args.wanted.now.moment c.args.wanted.now.asked.now) c.in-Ok-Change.field-0-is
    (c.in-Ok-Change.ensures.prepared c.args.wanted.now.asked.now here) in
    both.0

pub change-requires-clause-fits : goal.change-requires-clause-fits
change-requires-clause-fits g c =
    let s : Settings = record { policy = c.args.wanted.now.policy.now } in
    let here = rw c.in-Ok.is at c.requires.understood in
    let both = subst (IsPrepared s c.prepare.new.self c.args.wanted.now.moment c.args.wanted.now.asked.now) c.in-Ok-Change.field-0-is
    (c.in-Ok-Change.ensures.prepared c.args.wanted.now.asked.now here) in
    both.1

pub returns-in-Ok-Refused-clause-told : goal.returns-in-Ok-Refused-clause-told
returns-in-Ok-Refused-clause-told g c =
    let s : Settings = record { policy = c.args.wanted.now.policy.now } in
    let here = rw c.in-Ok.is at c.requires.understood in
    let told = subst (IsPrepared s c.prepare.new.self c.args.wanted.now.moment c.args.wanted.now.asked.now) c.in-Ok-Refused.field-0-is
    (c.in-Ok-Refused.ensures.prepared c.args.wanted.now.asked.now here) in
    told_at_once s c.args.book.now.machine.core c.prepare.new.self c.args.wanted.now.moment c.args.wanted.now.asked.now c.in-Ok-Refused.answer
    (same_world c.args.book.now.machine.core c.prepare.new.self c.prepare.ensures.roomier) (refused told)

pub returns-in-Ok-Repeated-clause-told : goal.returns-in-Ok-Repeated-clause-told
returns-in-Ok-Repeated-clause-told g c =
    let s : Settings = record { policy = c.args.wanted.now.policy.now } in
    let here = rw c.in-Ok.is at c.requires.understood in
    let told = subst (IsPrepared s c.prepare.new.self c.args.wanted.now.moment c.args.wanted.now.asked.now) c.in-Ok-Repeated.field-0-is
    (c.in-Ok-Repeated.ensures.prepared c.args.wanted.now.asked.now here) in
    told_at_once s c.args.book.now.machine.core c.prepare.new.self c.args.wanted.now.moment c.args.wanted.now.asked.now c.in-Ok-Repeated.answer
    (same_world c.args.book.now.machine.core c.prepare.new.self c.prepare.ensures.roomier) (repeated told)

pub returns-in-Ok-Answered-clause-told : goal.returns-in-Ok-Answered-clause-told
returns-in-Ok-Answered-clause-told g c =
    let s : Settings = record { policy = c.args.wanted.now.policy.now } in
    let here = rw c.in-Ok.is at c.requires.understood in
    let told = subst (IsPrepared s c.prepare.new.self c.args.wanted.now.moment c.args.wanted.now.asked.now) c.in-Ok-Answered.field-0-is
    (c.in-Ok-Answered.ensures.prepared c.args.wanted.now.asked.now here) in
    told_at_once s c.args.book.now.machine.core c.prepare.new.self c.args.wanted.now.moment c.args.wanted.now.asked.now c.in-Ok-Answered.answer
    (same_world c.args.book.now.machine.core c.prepare.new.self c.prepare.ensures.roomier) (performed told)

pub returns-in-Ok-Change-clause-keeps : goal.returns-in-Ok-Change-clause-keeps
returns-in-Ok-Change-clause-keeps g c =
    let s : Settings = record { policy = c.args.wanted.now.policy.now } in
    subst (λ (w : ServiceWorld). KeepsBook g.D.Disk.told Plays w c.args.book.now.journal
    (λ next. (c.change.result ≡ Instead Unavailable)
    × ((answer : Answer) × IsTold s w c.args.wanted.now.moment c.args.wanted.now.asked.now next answer))
    (world_in c.change.new.book.machine.core) c.change.new.book.journal)
    (same_world c.args.book.now.machine.core c.prepare.new.self c.prepare.ensures.roomier) c.change.ensures.keeps

pub returns-in-Ok-Change-clause-any_moment : goal.returns-in-Ok-Change-clause-any_moment
returns-in-Ok-Change-clause-any_moment g c =
    let s : Settings = record { policy = c.args.wanted.now.policy.now } in
    subst (λ (w : ServiceWorld). TriesAtMost g.D.Disk.told Plays w c.args.book.now.journal
    (λ next. (answer : Answer) × IsTold s w c.args.wanted.now.moment c.args.wanted.now.asked.now next answer) c.change.new.book.journal)
    (same_world c.args.book.now.machine.core c.prepare.new.self c.prepare.ensures.roomier) c.change.ensures.any_moment
