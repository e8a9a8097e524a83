use Rattle.std.proofs.Common.{Option, ap, rules}
use Rattle.std.proofs.lemmas.Result.{err_from_is_err_and}
use Rattle.call_forms.specs.declared.forms.Answer.{Answer}
use Rattle.invocation_world.specs.Advancing.{IsDueAt}
use Rattle.service_machine.specs.ServiceCore.CoreState.{world_in}
use Rattle.service_machine.proofs.ServiceCore.ServeLaws.{caught_up, ticked}
use Rattle.service_machine.specs.Machines.{Plays}
use Rattle.record_desk.proofs.RecordingLaws.{kept_as, kept_weaker, quiet_caught, same_failed, tries_as, tries_weaker}
use Rattle.record_desk.proofs.recording.catch_up.Goals as goal

pub returns-then-not-is_due-clause-ok : goal.returns-then-not-is_due-clause-ok
returns-then-not-is_due-clause-ok g c =
    quiet_caught (world_in c.args.book.now.machine.core) c.args.moment c.if-not-is_due.ensures.due

pub returns-clause-ok : goal.returns-clause-ok
returns-clause-ok g c =
    let due : IsDueAt c.args.book.now.machine.core.held.world.world c.args.moment = search rules in
    ticked c.args.book.now.machine.core c.tick.new.core c.in-Ok.plan.plan (world_in c.record_change.new.book.machine.core) c.args.moment
    c.in-Ok.ensures.core c.in-Ok.ensures.work c.in-Ok.ensures.keep c.in-Ok.ensures.length due c.in_ok-record_change.ensures.world

pub returns-clause-timely : goal.returns-clause-timely
returns-clause-timely g c =
    let due : IsDueAt c.args.book.now.machine.core.held.world.world c.args.moment = search rules in
    caught_up c.args.book.now.machine.core (world_in c.record_change.new.book.machine.core) c.args.moment c.is_due.ensures.valid
    c.requires.in_range c.requires.later
    (ticked c.args.book.now.machine.core c.tick.new.core c.in-Ok.plan.plan (world_in c.record_change.new.book.machine.core) c.args.moment
    c.in-Ok.ensures.core c.in-Ok.ensures.work c.in-Ok.ensures.keep c.in-Ok.ensures.length due c.in_ok-record_change.ensures.world)

pub returns-clause-keeps : goal.returns-clause-keeps
returns-clause-keeps g c =
    let journal = c.args.book.now.journal in
    let after = world_in c.record_change.new.book.machine.core in
    let new = c.record_change.new.book.journal in
    kept_as g.D.Disk.told Plays (world_in c.tick.new.core) (world_in c.args.book.now.machine.core) journal _ after new (ap world_in c.in-Ok.ensures.core)
    (kept_weaker g.D.Disk.told Plays (world_in c.tick.new.core) journal _ _ after new (λ next tried. absurd (let no = tried.0 in cc))
    c.in_ok-record_change.ensures.keeps)

pub returns-in_err-record_change-clause-keeps : goal.returns-in_err-record_change-clause-keeps
returns-in_err-record_change-clause-keeps g c =
    let p = err_from_is_err_and c.from_residual.result c.from_residual.ensures.1 in
    let old = c.args.book.now.machine.core in
    let journal = c.args.book.now.journal in
    let after = world_in c.record_change.new.book.machine.core in
    let new = c.record_change.new.book.journal in
    let due : IsDueAt old.held.world.world c.args.moment = search rules in
    rw (p.1, p.2) (kept_as g.D.Disk.told Plays (world_in c.tick.new.core) (world_in old) journal _ after new (ap world_in c.in-Ok.ensures.core)
    (kept_weaker g.D.Disk.told Plays (world_in c.tick.new.core) journal _ _ after new
    (λ next tried. (
      same_failed (Option Answer) (Unit {0}) c.in_err-record_change.field-0.0 tried.0,
      (due, ticked old c.tick.new.core c.in-Ok.plan.plan next c.args.moment c.in-Ok.ensures.core c.in-Ok.ensures.work c.in-Ok.ensures.keep c.in-Ok.ensures.length due tried.1),
    )) c.in_err-record_change.ensures.keeps))

pub returns-clause-any_moment : goal.returns-clause-any_moment
returns-clause-any_moment g c =
    let old = c.args.book.now.machine.core in
    let journal = c.args.book.now.journal in
    let new = c.record_change.new.book.journal in
    let due : IsDueAt old.held.world.world c.args.moment = search rules in
    let plan = c.in-Ok.plan.plan in
    tries_as g.D.Disk.told Plays (world_in c.tick.new.core) (world_in old) journal _ new (ap world_in c.in-Ok.ensures.core)
    (tries_weaker g.D.Disk.told Plays (world_in c.tick.new.core) journal _ _ new
    (λ next tried. (
      due,
      ticked old c.tick.new.core plan next c.args.moment c.in-Ok.ensures.core c.in-Ok.ensures.work c.in-Ok.ensures.keep c.in-Ok.ensures.length due tried,
    )) c.record_change.ensures.any_moment)

pub returns-in_err-record_change-clause-any_moment : goal.returns-in_err-record_change-clause-any_moment
returns-in_err-record_change-clause-any_moment g c =
    let old = c.args.book.now.machine.core in
    let journal = c.args.book.now.journal in
    let new = c.record_change.new.book.journal in
    let due : IsDueAt old.held.world.world c.args.moment = search rules in
    let plan = c.in-Ok.plan.plan in
    tries_as g.D.Disk.told Plays (world_in c.tick.new.core) (world_in old) journal _ new (ap world_in c.in-Ok.ensures.core)
    (tries_weaker g.D.Disk.told Plays (world_in c.tick.new.core) journal _ _ new
    (λ next tried. (
      due,
      ticked old c.tick.new.core plan next c.args.moment c.in-Ok.ensures.core c.in-Ok.ensures.work c.in-Ok.ensures.keep c.in-Ok.ensures.length due tried,
    )) c.record_change.ensures.any_moment)
