-- The code's own words: rows that are there, and what is granted for a page.
use Rattle.std.specs.Prelude.{◌≡◌, ◌<◌, ℕ, Bool, Some, All, length, not, slice_get}
use Rattle.policy_checks.specs.declared.permission.Permission.TheVariants.{GetTestExoneration, GetTestResult}
use Rattle.policy_tables.specs.declared.tables.PolicyTables.{PolicyTables}
use Rattle.test_results.specs.declared.result.TestResult.{TestResult}
use Rattle.verdict_lists.specs.declared.verdict.Verdict.{Verdict}
use Rattle.verdict_lists.specs.Orders.{id_at}
use Rattle.verdict_lists.specs.World.{World}
use Rattle.query_pages.specs.declared.rights.Rights.{Rights}
use Rattle.query_pages.specs.Seen.{SeenHeld}
use Rattle.query_pages.specs.Shown.{HasResult, IsSeen}

-- The results of a verdict are there, of which it has one at least.
pub record HasVerdict (world : World) (verdict : Verdict) : Type 0 where
  pub some : 0 < length verdict.results
  pub each : All (HasResult world) verdict.results

-- The result at a place is shown, whole or masked.
pub record IsHeld (world : World) (place : ℕ) (whole : Bool) (held : SeenHeld) : Type 0 where
  pub row : TestResult
  pub there : slice_get world.results place ≡ Some row
  pub invocation : held.invocation ≡ id_at world row.holder
  pub masked : held.result.masked ≡ not whole
  pub shows : IsSeen row held.result

-- What is granted to a caller under a policy, for a page of verdicts.
pub record AreRights (policy : PolicyTables) (caller : ℕ) (rights : Rights) : Type 0 where
  pub results : rights.results
      ≡ record { policy = policy; caller = caller; permission = GetTestResult }
  pub exonerations : rights.exonerations
      ≡ record { policy = policy; caller = caller; permission = GetTestExoneration }
