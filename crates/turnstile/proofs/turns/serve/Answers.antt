use Rattle.std.proofs.Common.{◌≡◌, ◌∷◌, ◌++◌, [], Some, ap, sym, subst, ◌∙◌}
use Rattle.turnstile.specs.Rule.{own_of}
use Rattle.turnstile.specs.Seats.{Stood}
use Rattle.turnstile.proofs.StepLaws.{same_slot, still_holds}
use Rattle.turnstile.proofs.turns.serve.Goals as goal

pub pass-requires-clause-holds : goal.pass-requires-clause-holds
pass-requires-clause-holds g c = (c.args.ticket, still_holds c.args.ticket (own_of c.args.place.now.me.0) c.take.new.place.me c.take.ensures.holds)

pub pass-requires-clause-stands : goal.pass-requires-clause-stands
pass-requires-clause-stands g c =
    let start = g.T.Held.start c.args.board.now.shared.key.value in
    let old = own_of c.args.place.now.me.0 in
    let own = own_of c.take.new.place.me.0 in
    let same : own ≡ old = ap (λ m. own_of m.0) c.take.ensures.holds in
    let value : Some c.requires.holds.0 ≡ Some c.in-Some.value = same_slot c.args.place.now.me _ _ _ _ c.requires.holds.1 c.take.ensures.value ∙ c.in-Some.is in
    let is : c.requires.holds.0 ≡ c.in-Some.value = cc in
    let stood : g.T.Held.stands c.in-Some.value start old.seen = subst (λ v. g.T.Held.stands v start old.seen) is c.requires.holds.2 in
    let ran = c.run-answer.ensures start old.seen c.requires.suits stood c.requires.room in
    let number : g.T.Held.by ran.0 ≡ own.number = ran.2 ∙ sym c.requires.number ∙ ap (λ k. k.number) (sym same) in
    let may : g.Q.Call.may c.of-asked.result.value old.seen ran.0 c.run-answer.result = subst (λ q. g.Q.Call.may q old.seen ran.0 c.run-answer.result) (sym c.of-asked.ensures) ran.3 in
    subst (λ k. (x : g.row.T-Entry.Denot) × g.T.Held.stands c.run-answer.new.held start (k.seen ++ x ∷ []) × (g.T.Held.by x ≡ k.number) × ((g.T.Held.by x ≡ k.number) × Stood g.T.Held.stands start k.seen × Stood g.T.Held.stands start (k.seen ++ x ∷ []) × g.Q.Call.may c.of-asked.result.value k.seen x c.run-answer.result)) (sym same)
    (ran.0, ran.1, ran.2 ∙ sym c.requires.number, (ran.2 ∙ sym c.requires.number, (c.in-Some.value, stood), (c.run-answer.new.held, ran.1), may))
