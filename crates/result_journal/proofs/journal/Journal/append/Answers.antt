use Rattle.std.proofs.Common.{inl, List, [], ◌∷◌, ◌++◌, ℕ, ap, subst, ◌∙◌}
use Rattle.disks.specs.Parts.{other_part}
use Rattle.disks.specs.MomentLaws.{at_both, at_each_of}
use Rattle.result_journal.specs.Journals.{Leaves, PartReadsAs, PartBeforeOrAfter, prepared, StandsFor}
use Rattle.result_journal.specs.Steps.{PartStays}
use Rattle.result_journal.specs.declared.journal.Journal.{Journal}
use Rattle.result_journal.proofs.JournalLaws.{on_each_err, settled_leaves, takes_both, same_command}
use Rattle.result_journal.proofs.OtherLaws.{other_both}
use Rattle.result_journal.proofs.journal.Journal.append.Goals as goal

pub open_gate-requires-clause-stands : goal.open_gate-requires-clause-stands
open_gate-requires-clause-stands g c = (
  c.requires.stands.0,
  c.stage.ensures.stands c.requires.stands.0 c.requires.stands.1,
  c.in_ok-stage.ensures.staged c.requires.stands.0 c.requires.stands.1,
)

pub returns-in_err-stage-clause-any_moment : goal.returns-in_err-stage-clause-any_moment
returns-in_err-stage-clause-any_moment g c = λ commands stands.
    at_each_of (g.D.Disk.told c.args.self.now.disk) (g.D.Disk.told c.stage.new.self.disk)
    (PartReadsAs c.args.self.now.part commands) (PartBeforeOrAfter c.args.self.now.part commands (prepared c.args.self.now))
    (λ image before. inl before) (c.stage.ensures.any_moment commands stands)

pub returns-in_err-open_gate-clause-any_moment : goal.returns-in_err-open_gate-clause-any_moment
returns-in_err-open_gate-clause-any_moment g c = λ commands stands.
    at_both (g.D.Disk.told c.args.self.now.disk) (g.D.Disk.told c.stage.new.self.disk) (g.D.Disk.told c.open_gate.new.self.disk)
    (PartReadsAs c.args.self.now.part commands) (PartBeforeOrAfter c.stage.new.self.part commands (prepared c.stage.new.self))
    (PartBeforeOrAfter c.args.self.now.part commands (prepared c.args.self.now))
    (λ image before. inl before)
    (λ image either. subst (λ (j : Journal _). PartBeforeOrAfter j.part commands (prepared j) image) c.stage.ensures.same either)
    (c.stage.ensures.any_moment commands stands)
    (c.open_gate.ensures.any_moment commands (c.stage.ensures.stands commands stands) (c.in_ok-stage.ensures.staged commands stands))

pub returns-clause-any_moment : goal.returns-clause-any_moment
returns-clause-any_moment g c = λ commands stands.
    at_both (g.D.Disk.told c.args.self.now.disk) (g.D.Disk.told c.stage.new.self.disk) (g.D.Disk.told c.open_gate.new.self.disk)
    (PartReadsAs c.args.self.now.part commands) (PartBeforeOrAfter c.stage.new.self.part commands (prepared c.stage.new.self))
    (PartBeforeOrAfter c.args.self.now.part commands (prepared c.args.self.now))
    (λ image before. inl before)
    (λ image either. subst (λ (j : Journal _). PartBeforeOrAfter j.part commands (prepared j) image) c.stage.ensures.same either)
    (c.stage.ensures.any_moment commands stands)
    (c.open_gate.ensures.any_moment commands (c.stage.ensures.stands commands stands) (c.in_ok-stage.ensures.staged commands stands))

pub returns-in_err-open_gate-clause-err : goal.returns-in_err-open_gate-clause-err
returns-in_err-open_gate-clause-err g c = on_each_err c.from_residual-in_err-open_gate.result (λ commands stands.
    c.in_err-open_gate.ensures.err commands (c.stage.ensures.stands commands stands)
    (c.in_ok-stage.ensures.staged commands stands))

pub returns-clause-ok : goal.returns-clause-ok
returns-clause-ok g c = λ commands stands.
    subst (λ (l : List ℕ). StandsFor g.D.Disk.told c.open_gate.new.self (commands ++ l ∷ []))
    (same_command c.args.self.now c.stage.new.self c.stage.ensures.same)
    (c.in_ok-open_gate.ensures.ok commands (c.stage.ensures.stands commands stands)
    (c.in_ok-stage.ensures.staged commands stands))

pub returns-clause-acknowledged : goal.returns-clause-acknowledged
returns-clause-acknowledged g c = λ commands stands.
    subst (λ (n : ℕ). Leaves (g.D.Disk.told c.open_gate.new.self.disk) (PartReadsAs n (commands ++ prepared c.args.self.now ∷ [])))
    (c.open_gate.ensures.part ∙ ap (λ (j : Journal _). j.part) c.stage.ensures.same)
    (settled_leaves g.D.Disk.told c.open_gate.new.self (commands ++ prepared c.args.self.now ∷ [])
    c.in_ok-open_gate.ensures.ok_settled
    (subst (λ (l : List ℕ). StandsFor g.D.Disk.told c.open_gate.new.self (commands ++ l ∷ []))
    (same_command c.args.self.now c.stage.new.self c.stage.ensures.same)
    (c.in_ok-open_gate.ensures.ok commands (c.stage.ensures.stands commands stands)
    (c.in_ok-stage.ensures.staged commands stands))))

pub returns-clause-calls : goal.returns-clause-calls
returns-clause-calls g c =
    takes_both (g.D.Disk.told c.args.self.now.disk) (g.D.Disk.told c.stage.new.self.disk)
    (g.D.Disk.told c.open_gate.new.self.disk) (PartReadsAs c.args.self.now.part c.requires.stands.0)
    (c.stage.ensures.any_moment c.requires.stands.0 c.requires.stands.1)
    c.in_ok-stage.ensures.calls c.in_ok-open_gate.ensures.calls

pub returns-in_err-stage-clause-still : goal.returns-in_err-stage-clause-still
returns-in_err-stage-clause-still g c =
    (c.requires.stands.0, c.stage.ensures.stands c.requires.stands.0 c.requires.stands.1)

pub returns-in_err-open_gate-clause-still : goal.returns-in_err-open_gate-clause-still
returns-in_err-open_gate-clause-still g c = (
  c.requires.stands.0,
  c.in_err-open_gate.ensures.err c.requires.stands.0 (c.stage.ensures.stands c.requires.stands.0 c.requires.stands.1)
      (c.in_ok-stage.ensures.staged c.requires.stands.0 c.requires.stands.1),
)

pub returns-clause-still : goal.returns-clause-still
returns-clause-still g c = (
  _,
  c.in_ok-open_gate.ensures.ok c.requires.stands.0 (c.stage.ensures.stands c.requires.stands.0 c.requires.stands.1)
      (c.in_ok-stage.ensures.staged c.requires.stands.0 c.requires.stands.1),
)

pub returns-in_err-open_gate-clause-other : goal.returns-in_err-open_gate-clause-other
returns-in_err-open_gate-clause-other g c =
    other_both (other_part c.args.self.now.part) (g.D.Disk.told c.args.self.now.disk) (g.D.Disk.told c.stage.new.self.disk)
    (g.D.Disk.told c.open_gate.new.self.disk) c.stage.ensures.other
    (subst (λ (j : Journal _). PartStays (other_part j.part) (g.D.Disk.told c.stage.new.self.disk) (g.D.Disk.told c.open_gate.new.self.disk))
    c.stage.ensures.same c.open_gate.ensures.other)

pub returns-clause-other : goal.returns-clause-other
returns-clause-other g c =
    other_both (other_part c.args.self.now.part) (g.D.Disk.told c.args.self.now.disk) (g.D.Disk.told c.stage.new.self.disk)
    (g.D.Disk.told c.open_gate.new.self.disk) c.stage.ensures.other
    (subst (λ (j : Journal _). PartStays (other_part j.part) (g.D.Disk.told c.stage.new.self.disk) (g.D.Disk.told c.open_gate.new.self.disk))
    c.stage.ensures.same c.open_gate.ensures.other)
