use Rattle.std.proofs.Common.{◌≡◌, ◌<◌, ◌+◌, ◌++◌, suc, List, take, drop, get_or, length, set, sym, ap, ◌∙◌, subst, arith}
use Rattle.test_results.specs.declared.exoneration.TestExoneration.{TestExoneration}
use Rattle.test_results.specs.Exonerations.{given}
use Rattle.test_results.proofs.ExonerationLemmas.{given_more}
use Rattle.test_results.proofs.exoneration_rows.give.Goals as goal

pub loop-at-preserved : goal.loop-at-preserved
loop-at-preserved c =
    let rows = c.args.rows.now in
    let holder = c.args.holder in
    let before = c.args.before in
    let at = c.loop-at.at in
    let item = c.index-rows-at.result in
    let place = before + at + 1 in
    let within : at < length rows = c.loop-at-test.true in
    let e : place ≡ suc (before + at) = omega arith in
    let is = c.index-rows-at.is in
    let front = given holder before (take at rows) ++ drop at rows in
    let up : suc at ≡ at + 1 = omega arith in
    let next = subst (λ n. set front at (record item { holder = holder; place = place }) ≡ given holder before (take n rows) ++ drop n rows) up
    (given_more holder before rows at item place within e (is ∙ ap (λ (rs : List TestExoneration). get_or rs at item) c.loop-at.invariant)) in
    ap (λ (r : TestExoneration). set c.loop-at.rows at (record r { holder = holder; place = place })) (sym is)
    ∙ ap (λ (rs : List TestExoneration). set rs at (record item { holder = holder; place = place })) c.loop-at.invariant ∙ next
