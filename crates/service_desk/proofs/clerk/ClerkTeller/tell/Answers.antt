use Rattle.std.proofs.Common.{◌≡◌, [], ◌∷◌, ◌++◌, ap, subst, ◌∙◌}
use Rattle.record_desk.specs.Standing.{exchange_of}
use Rattle.service_desk.specs.Shelves.{GoesOn, LedSomewhere}
use Rattle.service_desk.proofs.TurnLaws.{asked_on}
use Rattle.service_desk.proofs.clerk.ClerkTeller.tell.Goals as goal

pub answer-requires : goal.answer-requires
answer-requires g c = c.requires.2.1

pub returns-clause-told : goal.returns-clause-told
returns-clause-told g c = λ first before stands.
    let told = g.D.Disk.told in
    let faults = g.D.Disk.faults in
    let start = c.args.self.now.desk.now.start in (
      stands.0,
      c.answer.ensures.own ∙ stands.1,
      asked_on (λ e. e.seat) exchange_of (LedSomewhere told faults (λ clock. g.C.Clock.tells (g.C.Clock.state clock)) first.desk.now.start) (GoesOn told faults (λ clock. g.C.Clock.tells (g.C.Clock.state clock)) start) first.seat.knows
          c.args.self.now.seat.knows c.answer.new.seat.knows before c.args.asked.now c.answer.result
          (λ log e fit. subst (λ s. LedSomewhere told faults (λ clock. g.C.Clock.tells (g.C.Clock.state clock)) s (log ++ e ∷ [])) (ap (λ o. o.start) stands.0) fit.after)
          stands.2 c.answer.ensures.seat c.answer.ensures.turn c.answer.ensures.spent,
    )
