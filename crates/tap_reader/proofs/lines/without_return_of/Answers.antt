use Rattle.std.proofs.Common.{◌≡◌, true, false, cond, [], ◌∷◌, ◌++◌, refl, sym, ap, ◌∙◌, eq-eqb, arith}
use Rattle.std.specs.Prelude.{◌==◌}
use Rattle.std.proofs.lemmas.Bool.Decides.{nat_tests}
use Rattle.tap_reader.specs.LineWords.{without_return}
use Rattle.tap_reader.proofs.LineLemmas.{without_return-push}
use Rattle.tap_reader.proofs.lines.without_return_of.Goals as goal

pub returns-in-Some : goal.returns-in-Some
returns-in-Some c =
    let front = c.in-Some.front.now in
    let last = c.in-Some.last.now in
    let e : (last == 13) ≡ true = eq-eqb last 13 c.if-last-eq13.true in
    let p : cond (last == 13) front (front ++ last ∷ []) ≡ front = rw e refl in
    sym (ap without_return c.in-Some.ensures.cases.0 ∙ without_return-push front last ∙ p)

pub returns-in_default : goal.returns-in_default
returns-in_default c =
    let front = c.in-Some.front.now in
    let last = c.in-Some.last.now in
    let e : (last == 13) ≡ false = grind (arith, nat_tests, c.if-last-eq13.false) in
    let p : cond (last == 13) front (front ++ last ∷ []) ≡ front ++ last ∷ [] = rw e refl in
    sym (ap without_return c.in-Some.ensures.cases.0 ∙ without_return-push front last ∙ p ∙ sym c.in-Some.ensures.cases.0)
