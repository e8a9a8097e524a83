use Rattle.std.proofs.Common.{◌≡◌, ◌<◌, ◌+◌, length, get_or, sym, ap, subst, arith}
use Rattle.artifacts.specs.Requests.{AreSizesRight, DigestedState}
use Rattle.artifacts.proofs.RequestLemmas.{sizes_more}
use Rattle.artifacts.proofs.new_artifact.Digested.wrong_size.Goals as goal

pub loop-index-preserved : goal.loop-index-preserved
loop-index-preserved c =
    let rows = c.self.inside.rows in
    let said = c.self.inside.said in
    let at = c.loop-index.index in
    let state : DigestedState = record { rows = rows.items; said = said.items } in
    let low : at < length rows.items = omega (arith, c.loop-index-test.true, c.len-index-end.ensures, rows.ok.0) in
    let low_ : at < length said.items = omega (arith, low, c.self.invariant.1) in
    let row = c.index-row.result.now in
    let is : row ≡ get_or rows.items at row = c.index-row.ensures in
    let before = subst (λ (t : DigestedState). AreSizesRight t at) (sym c.self.view_is) c.loop-index.invariant in
    subst (λ (t : DigestedState). AreSizesRight t (at + 1)) c.self.view_is
    (sizes_more state at row c.index-said.result.now low is low_ c.index-said.ensures c.in_default.ensures before)

pub returns : goal.returns
returns c at said found low says has =
    let count = ap (λ (t : DigestedState). length t.rows) c.self.view_is in
    c.loop-index.invariant at said found
    (omega (arith, low, count, c.loop-index-test.false, c.len-index-end.ensures, c.self.inside.rows.ok.0)) says has
