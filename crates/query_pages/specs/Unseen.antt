-- Worlds that differ in nothing that a caller may see.
use Rattle.std.specs.Prelude.{◌≡◌, ◌⊎◌, ℕ, List, Some, slice_get}
use Rattle.std.specs.List.{AllZip}
use Rattle.policy_checks.specs.declared.permission.Permission.{Permission}
use Rattle.policy_checks.specs.declared.permission.Permission.TheVariants.{GetTestExoneration, GetTestResult}
use Rattle.policy_tables.specs.declared.tables.PolicyTables.{PolicyTables}
use Rattle.permissions.specs.Allows.{Allows}
use Rattle.invocations.specs.declared.invocation.Invocation.{Invocation}
use Rattle.test_results.specs.declared.exoneration.TestExoneration.{TestExoneration}
use Rattle.test_results.specs.declared.result.TestResult.{TestResult}
use Rattle.verdict_lists.specs.World.{World}
use Rattle.verdict_masks.specs.Masks.{DifferHidden}

-- The caller has the permission in the realm of the invocation at this place.
abbrev pub IsGranted : PolicyTables → ℕ → Permission → List Invocation → ℕ → Type 0
IsGranted policy caller permission invocations place =
    (holder : Invocation) × (slice_get invocations place ≡ Some holder)
    × Allows policy caller permission holder.realm

-- Two results are the same; or they have the same variant and differ in nothing but what is hidden
-- of a masked one, where the caller may not see results in the realm of the invocation that holds
-- them.
abbrev pub AreLike : PolicyTables → ℕ → List Invocation → TestResult → TestResult → Type 0
AreLike policy caller invocations one other =
    (one ≡ other)
    ⊎ ((¬ IsGranted policy caller GetTestResult invocations one.holder)
    × DifferHidden one other × (one.variant ≡ other.variant))

-- Two exonerations are the same, or they differ in their explanations alone, where the caller may
-- not see exonerations in the realm of the invocation that holds them.
abbrev pub AreToldLike : PolicyTables → ℕ → List Invocation
    → TestExoneration → TestExoneration → Type 0
AreToldLike policy caller invocations one other =
    (one ≡ other)
    ⊎ ((¬ IsGranted policy caller GetTestExoneration invocations one.holder)
    × (other ≡ record one { explanation = other.explanation }))

-- Two worlds have the same invocations and inclusions, and such results and exonerations.
pub record DifferUnseen (policy : PolicyTables) (caller : ℕ) (one other : World) : Type 0 where
  pub invocations : one.invocations ≡ other.invocations
  pub edges : one.edges ≡ other.edges
  pub results : AllZip (AreLike policy caller one.invocations) one.results other.results
  pub exonerations : AllZip (AreToldLike policy caller one.invocations)
      one.exonerations other.exonerations
