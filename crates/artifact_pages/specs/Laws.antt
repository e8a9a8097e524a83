-- Laws of pages: whatever rows there are, each question has one.
use Rattle.std.specs.Prelude.{◌≡◌, List}
use Rattle.artifacts.specs.declared.artifact.Artifact.{Artifact}
use Rattle.artifact_pages.specs.declared.queries.ArtifactQuery.{ArtifactQuery}
use Rattle.artifact_pages.specs.Pages.{IsShownPage}
use Rattle.artifact_replies.specs.Replies.{ArtifactsShown}

-- What is asked has one page at most.
abbrev pub OnePage : Type 0
OnePage =
    (rows : List Artifact) (asked : ArtifactQuery) (shown other : ArtifactsShown)
    → IsShownPage rows asked shown → IsShownPage rows asked other → shown ≡ other

-- And it has one, whatever rows there are.
abbrev pub APageIsThere : Type 0
APageIsThere =
    (rows : List Artifact) (asked : ArtifactQuery)
    → (shown : ArtifactsShown) × IsShownPage rows asked shown
