use Rattle.std.proofs.Common.{ℕ, inl, inr, FitsSigned, w64, to_z-of_z, subst}
use Rattle.result_journal.specs.Journals.{disk_of}
use Rattle.call_forms.specs.declared.forms.Told.TheVariants.{Standin as Instead}
use Rattle.service_machine.specs.RequestDemands.Settings.{Settings}
use Rattle.service_machine.specs.ServiceCore.CoreState.{world_in}
use Rattle.service_machine.specs.ServiceCore.History.{entry_at}
use Rattle.service_machine.specs.Machines.{Plays}
use Rattle.record_desk.specs.Standing.{IsTried, RoseIf}
use Rattle.record_desk.specs.Recording.{is_unavailable}
use Rattle.record_desk.proofs.RecordingLaws.{kept_both, kept_weaker, not_spent, same_standin, serves_after, serves_at_once, told_rose, tried_due, tried_step}
use Rattle.record_desk.proofs.RecordingLaws.{tries_both, tries_weaker}
use Rattle.record_desk.proofs.recording.serve.Goals as goal

pub answer-requires-clause-stands : goal.answer-requires-clause-stands
answer-requires-clause-stands g c = c.catch_up.ensures.keeps.stands c.requires.stands.0 c.requires.stands.1

pub returns-in-Ok-clause-serves : goal.returns-in-Ok-clause-serves
returns-in-Ok-clause-serves g c = λ seat.
    let fits : FitsSigned w64 c.args.now = c.ranges.now in
    let value = simp to_z-of_z at c.moment_of-moment.ensures.value in
    serves_after (record { policy = c.args.inquiry.policy.now }) (world_in c.args.book.now.machine.core) (world_in c.catch_up.new.book.machine.core)
    (world_in c.answer.new.book.machine.core) seat c.args.now c.moment_of-moment.result c.args.inquiry.asked.now c.answer.result value
    c.moment_of-moment.ensures.in_range c.moment_of-moment.ensures.later c.in-Ok.ensures.ok c.in-Ok.ensures.due c.answer.ensures.told

pub returns-in-Ok-clause-keeps : goal.returns-in-Ok-clause-keeps
returns-in-Ok-clause-keeps g c = λ seat.
    let fits : FitsSigned w64 c.args.now = c.ranges.now in
    let value = simp to_z-of_z at c.moment_of-moment.ensures.value in
    let w = world_in c.args.book.now.machine.core in
    let between = world_in c.catch_up.new.book.machine.core in
    let after = world_in c.answer.new.book.machine.core in
    let old = c.args.book.now.journal in
    let mid = c.catch_up.new.book.journal in
    let new = c.answer.new.book.journal in
    kept_both g.D.Disk.told Plays w old _ between mid after new
    (kept_weaker g.D.Disk.told Plays w old _ _ between mid (λ next tried. absurd (let no = tried.0 in cc)) c.in-Ok.ensures.keeps)
    (kept_weaker g.D.Disk.told Plays between mid _ _ after new
    (λ next tried. (
      tried.0,
      tried_step (record { policy = c.args.inquiry.policy.now }) w between next seat c.args.now c.moment_of-moment.result
          c.args.inquiry.asked.now c.answer.result value c.in-Ok.ensures.ok tried.1,
    )) c.answer.ensures.keeps)

pub returns-in-Ok-clause-rose : goal.returns-in-Ok-clause-rose
returns-in-Ok-clause-rose g c =
    subst (λ (n : ℕ). RoseIf (is_unavailable c.answer.result) n (g.D.Disk.faults (disk_of c.answer.new.book.journal))) c.in-Ok.ensures.rose c.answer.ensures.rose

pub returns-in-Err-clause-serves : goal.returns-in-Err-clause-serves
returns-in-Err-clause-serves g c = λ seat.
    let fits : FitsSigned w64 c.args.now = c.ranges.now in
    let value = simp to_z-of_z at c.moment_of-moment.ensures.value in
    serves_at_once (record { policy = c.args.inquiry.policy.now }) (world_in c.args.book.now.machine.core) (world_in c.catch_up.new.book.machine.core) seat
    c.args.now c.moment_of-moment.result c.args.inquiry.asked.now c.in-Err.standin value c.moment_of-moment.ensures.in_range
    c.moment_of-moment.ensures.later c.in-Err.ensures.same c.in-Err.ensures.was_due (not_spent _ c.in-Err.standin c.in-Err.ensures.unspent)

pub returns-in-Err-clause-keeps : goal.returns-in-Err-clause-keeps
returns-in-Err-clause-keeps g c = λ seat.
    let fits : FitsSigned w64 c.args.now = c.ranges.now in
    let value = simp to_z-of_z at c.moment_of-moment.ensures.value in
    kept_weaker g.D.Disk.told Plays (world_in c.args.book.now.machine.core) c.args.book.now.journal _ _ (world_in c.catch_up.new.book.machine.core)
    c.catch_up.new.book.journal
    (λ next tried. (
      same_standin _ c.in-Err.standin tried.0,
      tried_due (record { policy = c.args.inquiry.policy.now }) (world_in c.args.book.now.machine.core) next seat
          c.args.now c.moment_of-moment.result c.args.inquiry.asked.now (Instead c.in-Err.standin) value tried.1,
    )) c.in-Err.ensures.keeps

pub returns-in-Err-clause-rose : goal.returns-in-Err-clause-rose
returns-in-Err-clause-rose g c = told_rose (Unit {0}) c.in-Err.standin _ _ c.in-Err.ensures.rose

pub returns-in-Ok-clause-any_moment : goal.returns-in-Ok-clause-any_moment
returns-in-Ok-clause-any_moment g c = λ seat.
    let fits : FitsSigned w64 c.args.now = c.ranges.now in
    let value = simp to_z-of_z at c.moment_of-moment.ensures.value in
    let s : Settings = record { policy = c.args.inquiry.policy.now } in
    let w = world_in c.args.book.now.machine.core in
    let between = world_in c.catch_up.new.book.machine.core in
    let old = c.args.book.now.journal in
    let mid = c.catch_up.new.book.journal in
    let new = c.answer.new.book.journal in
    let asked = c.args.inquiry.asked.now in
    let told = c.answer.result in
    let moment = c.moment_of-moment.result in
    let e = entry_at w seat c.args.now asked told (is_unavailable told) in
    tries_both g.D.Disk.told Plays w old _ (IsTried s w e) between mid c.in-Ok.ensures.keeps (λ next tried. absurd (let no = tried.0 in cc))
    (elim c.in-Ok.ensures.due [
      | inl due ↦ inl (tried_due s w between seat c.args.now moment asked told value (due, c.in-Ok.ensures.ok))
      | inr same ↦ inr same
    ]) new
    (tries_weaker g.D.Disk.told Plays w old _ (IsTried s w e) mid (λ next tried. tried_due s w next seat c.args.now moment asked told value tried)
    c.catch_up.ensures.any_moment)
    (tries_weaker g.D.Disk.told Plays between mid _ (IsTried s w e) new
    (λ next tried. tried_step s w between next seat c.args.now moment asked told value c.in-Ok.ensures.ok tried) c.answer.ensures.any_moment)

pub returns-in-Err-clause-any_moment : goal.returns-in-Err-clause-any_moment
returns-in-Err-clause-any_moment g c = λ seat.
    let fits : FitsSigned w64 c.args.now = c.ranges.now in
    let value = simp to_z-of_z at c.moment_of-moment.ensures.value in
    tries_weaker g.D.Disk.told Plays (world_in c.args.book.now.machine.core) c.args.book.now.journal _ _ c.catch_up.new.book.journal
    (λ next tried. tried_due (record { policy = c.args.inquiry.policy.now }) (world_in c.args.book.now.machine.core) next seat c.args.now
    c.moment_of-moment.result c.args.inquiry.asked.now (Instead c.in-Err.standin) value tried) c.catch_up.ensures.any_moment
