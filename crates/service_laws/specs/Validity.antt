-- What is so of the world of the service between two steps.
use Rattle.std.specs.Prelude.{◌≡◌, ℕ, ◌+◌, ◌<◌, ◌≤◌, List, All, Some, length, slice_get}
use Rattle.artifacts.specs.declared.artifact.Artifact.{Artifact}
use Rattle.artifacts.specs.Artifacts as artifacts
use Rattle.artifacts.specs.Orders.{invocation_of}
use Rattle.invocations.specs.declared.invocation.Invocation.{Invocation}
use Rattle.invocations.specs.Rows.{ids_of}
use Rattle.kept_replies.specs.declared.reply.KeptAnswer.{KeptAnswer}
use Rattle.kept_replies.specs.declared.reply.KeptAnswer.TheVariants.{Created, Results, Exonerations, Artifacts}
use Rattle.kept_replies.specs.Kept.{IsAlone}
use Rattle.test_results.specs.Exonerations as exonerations
use Rattle.test_results.specs.Results as results
use Rattle.service_effects.specs.Fitting.{holder_in}
use Rattle.service_effects.specs.Service.{IsSound, Recorded, ServiceWorld, recorded}
use Rattle.service_core.specs.RequestEffects.Shows.{part_of}

-- So many rows from a place on, at least one, are there, one behind the other, and all of one
-- holder.
pub record AreOneBatch (holders : List ℕ) (first count : ℕ) : Type 0 where
  pub some : 0 < count
  pub there : first + count ≤ length holders
  pub one : All (λ holder. holder ≡ holder_in (part_of first count holders))
      (part_of first count holders)

-- The rows stand of which a kept answer is made again.
abbrev pub StandsIn : Recorded → KeptAnswer → Type 0
StandsIn w (Created place deadline tags) = place < length w.rows.invocations
StandsIn w (Results first count) = AreOneBatch (results.holders_of w.results) first count
StandsIn w (Exonerations first count) =
    AreOneBatch (exonerations.holders_of w.exonerations) first count
StandsIn w (Artifacts first count) = AreOneBatch (artifacts.holders_of w.artifacts) first count

-- The name of an artifact has the id of the invocation that holds it.
abbrev pub NamesItsHolder : List Invocation → Artifact → Type 0
NamesItsHolder rows row =
    slice_get (ids_of rows) row.holder ≡ Some (invocation_of row.name.parent)

-- What is so of the world between two steps, part by part.
pub record IsValid (w : ServiceWorld) : Type 0 where
  pub sound : IsSound (recorded w)
  pub named : All (NamesItsHolder w.rows.invocations) w.artifacts
  pub alone : IsAlone w.kept
  pub stand : All (λ reply. StandsIn (recorded w) reply.answer) w.kept
