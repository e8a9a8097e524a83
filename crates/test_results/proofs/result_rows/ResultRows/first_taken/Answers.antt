use Rattle.std.proofs.Common.{◌≡◌, Option, Some, None, true, false, refl, sym, ap, ◌∙◌, subst, inl, inr, arith}
use Rattle.std.specs.Prelude.{is_some}
use Rattle.std.specs.List.{slice_get}
use Rattle.std.proofs.lemmas.Bool.{cases_lt}
use Rattle.std.proofs.lemmas.Option.{MatchOption-at_none, same_Some}
use Rattle.test_results.specs.Results.{Key, HasKey, IsPlaceOf, key_of, keys_of}
use Rattle.test_results.proofs.BatchLemmas.{key_is}
use Rattle.test_results.proofs.result_rows.ResultRows.first_taken.Goals as goal

none_is : {A : Type 0} (o : Option A) → is_some o ≡ false → o ≡ None
none_is None e = refl
none_is (Some x) e = let no : true ≡ false = e in cc

pub loop-at-preserved : goal.loop-at-preserved
loop-at-preserved c key i low there held =
    let rows = c.args.self.now.rows in
    let batch = c.args.batch.now in
    let row = c.index-batch-at.result in
    elim (cases_lt i c.loop-at.at) [
      | inl lt ↦ c.loop-at.invariant key i lt there held
      | inr ge ↦
          let at : i ≡ c.loop-at.at = omega (arith, low, ge) in
          let is = key_is batch c.loop-at.at row c.loop-at-test.true c.index-batch-at.is in
          let same : key ≡ key_of row = same_Some key (key_of row) (sym there ∙ ap (λ n. slice_get (keys_of batch) n) at ∙ is) in
          let none = none_is c.find.result (sym c.is_some.ensures ∙ c.if-is_some.false) in
          MatchOption-at_none (¬ HasKey rows (key_of row)) (IsPlaceOf rows (key_of row)) none c.find.ensures (subst (λ (k : Key). HasKey rows k) same held)
    ]
