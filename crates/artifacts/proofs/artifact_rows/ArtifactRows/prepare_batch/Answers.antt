use Rattle.std.proofs.Common.{◌≤◌, ℕ, List, length, sym, ap, ◌∙◌, subst, arith}
use Rattle.std.proofs.lemmas.List.{length-map}
use Rattle.artifacts.specs.declared.artifact.Artifact.{Artifact}
use Rattle.artifacts.specs.Artifacts.{ArtifactsState, places_in}
use Rattle.artifacts.specs.Batches.{CanAdd, Fits, HaveNoFault, IsRowFault, given, of_holder, with_holder}
use Rattle.artifacts.specs.Requests.{DigestedState}
use Rattle.artifacts.proofs.BatchLemmas.{given_held, row_fault}
use Rattle.artifacts.proofs.RequestLemmas.{given_hashed}
use Rattle.artifacts.proofs.artifact_rows.ArtifactRows.prepare_batch.Goals as goal

pub returns-in-Some-clause-fault : goal.returns-in-Some-clause-fault
returns-in-Some-clause-fault c =
    let rows = c.args.self.now.rows in
    let holder = c.args.holder in
    let asked = c.args.rows in
    let count = ap (λ (rs : List Artifact). length rs) c.rows-count.ensures.rows in
    let size : length (given holder asked.rows) ≤ 500 =
    omega (arith, c.if-count-gt-MOST_OF_BATCH.false, count, length-map asked.rows (with_holder holder)) in
    row_fault rows holder (of_holder holder asked) c.in-Some.fault size
    (subst (λ (b : DigestedState). IsRowFault rows b c.in-Some.fault) c.of_holder-batch.ensures c.in-Some.ensures.fault)

pub returns-clause-fits : goal.returns-clause-fits
returns-clause-fits c =
    let rows = c.args.self.now.rows in
    let holder = c.args.holder in
    let asked = c.args.rows in
    let batch = given holder asked.rows in
    let is = c.of_holder-batch.ensures in
    let none = subst (λ (b : DigestedState). HaveNoFault rows b) is c.in_default.ensures.fault in
    let count = ap (λ (rs : List Artifact). length rs) c.rows-count.ensures.rows in
    let total = length-map asked.rows (with_holder holder) in
    let same = ap (λ (t : ArtifactsState). t.rows) c.in_default.ensures.table in
    let held = ap (λ (ps : List ℕ). length ps) (c.rows_of-held.ensures.places ∙ ap (λ (rs : List Artifact). places_in rs holder) same) in
    let can : CanAdd rows holder batch = record {
      size = omega (arith, c.if-count-gt-MOST_OF_BATCH.false, count, total);
      once = none.once;
      free = none.free;
      few = omega (arith, total, count, c.if-count-held.false, held, c.rows_of-held.ensures.few);
    } in
    subst (λ (b : DigestedState). Fits c.reserve.new.self b.rows) (sym is) (record {
      holder = holder;
      held = given_held holder asked.rows;
      hashed = given_hashed holder asked.rows c.rows-count.ensures.hashed;
      can = subst (λ (rs : List Artifact). CanAdd rs holder batch) (sym (c.in_ok-reserve.ensures.rows ∙ same)) can;
      room = omega (arith, total, count, c.in_ok-reserve.ensures.enough);
    })
