use Rattle.std.proofs.Common.{◌≡◌, ℕ, List, length, sym, ap, ◌∙◌, subst, arith, rules}
use Rattle.std.proofs.lemmas.List.{length-map, with_items_is}
use Rattle.test_results.specs.declared.result.TestResult.{TestResult}
use Rattle.test_results.specs.Batches.{AreFree, AreOnce, CanAdd, Fits, given, with_holder}
use Rattle.test_results.specs.Results.{ResultsState, places_in}
use Rattle.test_results.proofs.BatchLemmas.{given_held}
use Rattle.test_results.proofs.result_rows.ResultRows.prepare_batch.Goals as goal

pub returns-in_err-reserve-clause-fault : goal.returns-in_err-reserve-clause-fault
returns-in_err-reserve-clause-fault c =
    let rows = c.args.self.now.rows in
    let holder = c.args.holder in
    let batch = given holder c.args.rows.items in
    let give_is : c.give.new.rows ≡ batch = c.give.ensures ∙ ap (λ (rs : List TestResult). given holder rs) c.deref_mut.ensures.value in
    let total : length batch ≡ length c.args.rows.items = length-map c.args.rows.items (with_holder holder) in
    let size : length c.give.new.rows ≡ c.args.rows.len = ap (λ (rs : List TestResult). length rs) give_is ∙ total ∙ sym c.args.rows.ok.0 in
    let all = with_items_is c.args.rows c.give.new.rows size ∙ give_is in
    let same = ap (λ (t : ResultsState). t.rows) c.repeat_in.ensures.table in
    let once = subst (λ (rs : List TestResult). AreOnce rs (length rs)) (c.as_slice.ensures.value ∙ all) c.in_default.ensures.repeat in
    let free = subst (λ (rs : List TestResult). AreFree rs batch (length batch)) same
    (subst (λ (rs : List TestResult). AreFree c.repeat_in.new.self.rows rs (length rs)) (c.as_slice-2.ensures.value ∙ all) c.in_default-first_taken.ensures) in
    let held = ap (λ (ps : List ℕ). length ps) (c.rows_of-held.ensures.places ∙ ap (λ (rs : List TestResult). places_in rs holder) same) in
    let can : CanAdd rows holder batch = record {
      size = omega (arith, total, c.len-count.ensures, c.args.rows.ok.0);
      once = once;
      free = free;
      few = omega (arith, total, c.len-count.ensures, c.args.rows.ok.0, held, c.rows_of-held.ensures.few);
    } in
    search (rules, can)

pub returns-clause-fits : goal.returns-clause-fits
returns-clause-fits c =
    let rows = c.args.self.now.rows in
    let holder = c.args.holder in
    let batch = given holder c.args.rows.items in
    let give_is : c.give.new.rows ≡ batch = c.give.ensures ∙ ap (λ (rs : List TestResult). given holder rs) c.deref_mut.ensures.value in
    let total : length batch ≡ length c.args.rows.items = length-map c.args.rows.items (with_holder holder) in
    let size : length c.give.new.rows ≡ c.args.rows.len = ap (λ (rs : List TestResult). length rs) give_is ∙ total ∙ sym c.args.rows.ok.0 in
    let all = with_items_is c.args.rows c.give.new.rows size ∙ give_is in
    let same = ap (λ (t : ResultsState). t.rows) c.repeat_in.ensures.table in
    let once = subst (λ (rs : List TestResult). AreOnce rs (length rs)) (c.as_slice.ensures.value ∙ all) c.in_default.ensures.repeat in
    let free = subst (λ (rs : List TestResult). AreFree rs batch (length batch)) same
    (subst (λ (rs : List TestResult). AreFree c.repeat_in.new.self.rows rs (length rs)) (c.as_slice-2.ensures.value ∙ all) c.in_default-first_taken.ensures) in
    let held = ap (λ (ps : List ℕ). length ps) (c.rows_of-held.ensures.places ∙ ap (λ (rs : List TestResult). places_in rs holder) same) in
    let can : CanAdd rows holder batch = record {
      size = omega (arith, total, c.len-count.ensures, c.args.rows.ok.0);
      once = once;
      free = free;
      few = omega (arith, total, c.len-count.ensures, c.args.rows.ok.0, held, c.rows_of-held.ensures.few);
    } in
    subst (λ (rs : List TestResult). Fits c.reserve.new.self rs) (sym all) (record {
      holder = holder;
      held = given_held holder c.args.rows.items;
      can = subst (λ (rs : List TestResult). CanAdd rs holder batch) (sym (c.in_ok-reserve.ensures.rows ∙ same)) can;
      room = omega (arith, total, c.len-count.ensures, c.args.rows.ok.0, c.in_ok-reserve.ensures.enough);
    })
