-- Worlds of the service that look alike to a caller.
use Rattle.std.specs.Prelude.{◌≡◌, ◌⊎◌, ℕ, List}
use Rattle.std.specs.List.{AllZip}
use Rattle.artifact_replies.specs.Laws.{AreAlike}
use Rattle.artifacts.specs.declared.artifact.Artifact.{Artifact}
use Rattle.invocations.specs.declared.invocation.Invocation.{Invocation}
use Rattle.policy_checks.specs.declared.permission.Permission.TheVariants.{GetArtifact}
use Rattle.policy_tables.specs.declared.tables.PolicyTables.{PolicyTables}
use Rattle.query_pages.specs.Unseen.{AreLike, AreToldLike, IsGranted}
use Rattle.service_effects.specs.Service.{ServiceWorld}

-- Two artifacts are the same; or they differ in nothing but their contents, of which they have as
-- many bytes, and their hashes, where the caller may not see artifacts in the realm of the
-- invocation that holds them.
abbrev pub AreFilesLike : PolicyTables → ℕ → List Invocation → Artifact → Artifact → Type 0
AreFilesLike policy caller rows a b =
    (a ≡ b)
    ⊎ ((¬ IsGranted policy caller GetArtifact rows a.holder)
    × (a.holder ≡ b.holder) × AreAlike a b)

-- Two worlds look alike to a caller under a policy: they have the same invocations and inclusions,
-- and the same moment of the last change; and as many results, exonerations and artifacts, each of
-- which differs from the one at its place in the other world in nothing but what the caller may not
-- see of it. What is kept of numbered requests, and how many bytes their records take, may be
-- anything.
pub record LookAlike (policy : PolicyTables) (caller : ℕ) (one other : ServiceWorld)
    : Type 0 where
  pub rows : one.rows ≡ other.rows
  pub results : AllZip (AreLike policy caller one.rows.invocations) one.results other.results
  pub exonerations : AllZip (AreToldLike policy caller one.rows.invocations)
      one.exonerations other.exonerations
  pub artifacts : AllZip (AreFilesLike policy caller one.rows.invocations)
      one.artifacts other.artifacts
