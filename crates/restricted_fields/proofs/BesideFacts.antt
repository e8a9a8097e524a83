-- Worlds with the same invocations that look alike.
use Rattle.std.proofs.Common.{ℕ, List, inl, inr, refl}
use Rattle.artifacts.specs.declared.artifact.Artifact.{Artifact}
use Rattle.policy_checks.specs.declared.permission.Permission.TheVariants.{GetArtifact, GetTestExoneration, GetTestResult}
use Rattle.policy_tables.specs.declared.tables.PolicyTables.{PolicyTables}
use Rattle.invocations.specs.declared.invocation.Invocation.{Invocation}
use Rattle.test_results.specs.declared.exoneration.TestExoneration.{TestExoneration}
use Rattle.test_results.specs.declared.result.TestResult.{TestResult}
use Rattle.invocation_world.specs.World.{World}
use Rattle.query_pages.specs.Unseen.{AreLike, AreToldLike, DifferUnseen}
use Rattle.service_effects.specs.Service.{ServiceWorld, recorded}
use Rattle.service_laws.specs.RequestEffects.Answers.{listed_in}
use Rattle.restricted_fields.specs.Alike.{AreFilesLike, LookAlike}
use Rattle.restricted_fields.proofs.ListFacts.{zip_as}
use Rattle.restricted_fields.proofs.RealmFacts.{AllStood, granted_before}

-- a world, but with these invocations and inclusions
abbrev pub with_rows : World → ServiceWorld → ServiceWorld
with_rows rows w = record w { rows = rows }

-- the world whose records take so many bytes
abbrev pub with_stored : ℕ → ServiceWorld → ServiceWorld
with_stored stored w = record w { stored = stored }

-- two worlds look alike where both have these
abbrev pub AlikeOver : PolicyTables → ℕ → World → ServiceWorld → ServiceWorld → Type 0
AlikeOver policy caller rows w v = LookAlike policy caller (with_rows rows w) (with_rows rows v)

like_still : (policy : PolicyTables) (caller : ℕ) (old new : List Invocation) → AllStood old new → (a b : TestResult)
    → AreLike policy caller old a b → AreLike policy caller new a b
like_still policy caller old new stood a b (inl same) = inl same
like_still policy caller old new stood a b (inr d) =
    inr ((λ h. d.0 (granted_before policy caller GetTestResult old new a.holder stood h)), d.1, d.2)

told_like_still : (policy : PolicyTables) (caller : ℕ) (old new : List Invocation) → AllStood old new → (a b : TestExoneration)
    → AreToldLike policy caller old a b → AreToldLike policy caller new a b
told_like_still policy caller old new stood a b (inl same) = inl same
told_like_still policy caller old new stood a b (inr d) =
    inr ((λ h. d.0 (granted_before policy caller GetTestExoneration old new a.holder stood h)), d.1)

files_like_still : (policy : PolicyTables) (caller : ℕ) (old new : List Invocation) → AllStood old new → (a b : Artifact)
    → AreFilesLike policy caller old a b → AreFilesLike policy caller new a b
files_like_still policy caller old new stood a b (inl same) = inl same
files_like_still policy caller old new stood a b (inr d) =
    inr ((λ h. d.0 (granted_before policy caller GetArtifact old new a.holder stood h)), d.1, d.2)

-- they still do where realms stay
pub alike_still : (policy : PolicyTables) (caller : ℕ) (old new : World) (w v : ServiceWorld) → AllStood old.invocations new.invocations
    → AlikeOver policy caller old w v → AlikeOver policy caller new w v
alike_still policy caller old new w v stood like =
    let before = old.invocations in
    let later = new.invocations in
    record {
      rows = refl;
      results = zip_as (AreLike policy caller before) (AreLike policy caller later) w.results v.results
          (like_still policy caller before later stood) like.results;
      exonerations = zip_as (AreToldLike policy caller before) (AreToldLike policy caller later) w.exonerations v.exonerations
          (told_like_still policy caller before later stood) like.exonerations;
      artifacts = zip_as (AreFilesLike policy caller before) (AreFilesLike policy caller later) w.artifacts v.artifacts
          (files_like_still policy caller before later stood) like.artifacts;
    }

-- worlds that look alike do so over the invocations of the one
pub alike_over : (policy : PolicyTables) (caller : ℕ) (one other : ServiceWorld) → LookAlike policy caller one other
    → AlikeOver policy caller one.rows one other
alike_over policy caller one other like =
    record { rows = refl; results = like.results; exonerations = like.exonerations; artifacts = like.artifacts }

-- what results and verdicts are listed of differs in nothing that the caller may see
pub listed_alike : (policy : PolicyTables) (caller : ℕ) (rows : World) (w v : ServiceWorld) → AlikeOver policy caller rows w v
    → DifferUnseen policy caller (listed_in (recorded (with_rows rows w))) (listed_in (recorded (with_rows rows v)))
listed_alike policy caller rows w v like =
    record { invocations = refl; edges = refl; results = like.results; exonerations = like.exonerations }
