use Rattle.std.proofs.Common.{List, sym, subst}
use Rattle.test_results.specs.declared.result.TestResult.{TestResult}
use Rattle.test_results.specs.Hashes.{IsHashed}
use Rattle.test_results.proofs.result_rows.ResultRows.find.Goals as goal

pub find_key-requires : goal.find_key-requires
find_key-requires c =
    subst (λ (rs : List TestResult). IsHashed rs c.self.inside.by_key) (sym c.as_slice-rows.ensures.value) c.self.invariant.0.chained
