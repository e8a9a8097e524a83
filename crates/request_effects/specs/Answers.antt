-- The answers that show something to who asks.
use Rattle.std.specs.Prelude.{⊤, ◌≡◌, ◌<◌, ℕ, List, Option, Some, None, length, slice_get}
use Rattle.artifacts.specs.declared.artifact.Artifact.{Artifact}
use Rattle.artifact_pages.specs.Pages.{IsShownPage}
use Rattle.artifact_pages.specs.ArtifactReplies.Replies.{ArtifactsShown}
use Rattle.request_rules.specs.MessageForms.declared.replies.Reply.TheVariants as reply
use Rattle.test_results.specs.declared.result.TestResult.{TestResult}
use Rattle.query_replies.specs.VerdictLists.World.{AreRoots, World}
use Rattle.query_replies.specs.QueryPages.Pages.{IsResultPage, IsVerdictPage}
use Rattle.query_replies.specs.QueryPages.Seen.{SeenHeld, SeenRows, SeenVerdicts}
use Rattle.query_replies.specs.QueryPages.Shown.{IsShownResult}
use Rattle.query_replies.specs.Pages.{reply_of, results_page, verdicts_page}
use Rattle.query_replies.specs.Results.{seen_data}
use Rattle.call_forms.specs.declared.forms.Answer.{Answer}
use Rattle.service_effects.specs.declared.effect.Effect.{Effect}
use Rattle.service_effects.specs.declared.effect.Effect.TheVariants as does
use Rattle.service_effects.specs.Service.{Recorded}
use Rattle.request_effects.specs.declared.shows.Showing.{Showing}
use Rattle.request_effects.specs.declared.shows.Showing.TheVariants.{Alike, Result, Results, Verdicts, Artifact as OneArtifact, Artifacts}
use Rattle.request_effects.specs.declared.shows.Shows.TheVariants as shows
use Rattle.request_effects.specs.Foreseen.{IsOwn}
use Rattle.request_effects.specs.Shows.{Scene, answer_of, done}

-- the part of what is recorded of which results and verdicts are listed
abbrev pub listed_in : Recorded → World
listed_in w = record {
  invocations = w.rows.invocations;
  edges = w.rows.inclusions;
  results = w.results;
  exonerations = w.exonerations;
}

-- the answer that a request succeeded, with this text
abbrev pub done_with : List ℕ → Answer
done_with text = record { status = 200; code = 0; token = None; body = text }

-- The result at a place is shown as the caller may see it, where one stands there.
abbrev pub ShowsResult : Scene → ℕ → ℕ → Option TestResult → Answer → Type 0
ShowsResult s caller place None answer = answer ≡ answer_of s shows.Empty
ShowsResult s caller place (Some row) answer =
    (held : SeenHeld)
    × IsShownResult (listed_in s.world) s.settings.policy caller place held
    × (answer ≡ done_with (reply_of (seen_data held)))

-- The artifact is shown whole, where one stands at the place.
abbrev pub artifact_answer : Scene → Option Artifact → Answer
artifact_answer s None = answer_of s shows.Empty
artifact_answer s (Some row) = done None (reply.Artifact row)

-- The answer shows this to a caller: what is the same to all; or a result, or a page of results or
-- of verdicts, of which the caller sees what may be seen; or an artifact whole, or a page of them.
abbrev pub Answers : Scene → ℕ → Showing → Answer → Type 0
Answers s caller (Alike shows) answer = answer ≡ answer_of s shows
Answers s caller (Result place) answer =
    ShowsResult s caller place (slice_get s.world.results place) answer
Answers s caller (Results query) answer =
    (page : SeenRows)
    × IsResultPage (listed_in s.world) s.settings.policy caller query page
    × (answer ≡ done_with (reply_of (results_page page)))
Answers s caller (Verdicts query) answer =
    (page : SeenVerdicts)
    × IsVerdictPage (listed_in s.world) s.settings.policy caller query page
    × (answer ≡ done_with (reply_of (verdicts_page page)))
Answers s caller (OneArtifact place) answer =
    answer ≡ artifact_answer s (slice_get s.world.artifacts place)
Answers s caller (Artifacts query) answer =
    (page : ArtifactsShown) × IsShownPage s.world.artifacts query page
    × (answer ≡ done None (reply.Artifacts page))

-- The result at a place is there, and so is the invocation that holds it.
abbrev pub HasResult : World → ℕ → Type 0
HasResult world place =
    (row : TestResult) × (slice_get world.results place ≡ Some row)
    × (row.holder < length world.invocations)

-- The code's own words: what is read is there, and a page has room for a row.
abbrev pub IsThere : Recorded → Showing → Type 0
IsThere w (Alike shows) = ⊥
IsThere w (Result place) = HasResult (listed_in w) place
IsThere w (Results query) = AreRoots (listed_in w) query.roots × (0 < query.size)
IsThere w (Verdicts query) = AreRoots (listed_in w) query.roots × (0 < query.size)
IsThere w (OneArtifact place) = place < length w.artifacts
IsThere w (Artifacts query) = ⊤

-- What is shown is what an effect is about; or it is read, and nothing is done.
abbrev pub Fits : Recorded → Effect → Showing → Type 0
Fits w effect (Alike shows) = IsOwn w effect shows
Fits w effect (Result place) = (effect ≡ does.Nothing) × IsThere w (Result place)
Fits w effect (Results query) = (effect ≡ does.Nothing) × IsThere w (Results query)
Fits w effect (Verdicts query) = (effect ≡ does.Nothing) × IsThere w (Verdicts query)
Fits w effect (OneArtifact place) = (effect ≡ does.Nothing) × IsThere w (OneArtifact place)
Fits w effect (Artifacts query) = (effect ≡ does.Nothing) × IsThere w (Artifacts query)
