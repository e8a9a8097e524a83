-- Artifacts as they are shown once they are recorded.
use Rattle.std.specs.Prelude.{◌≡◌, ◌⊎◌, ℕ, ℤ, List, Contains, None}
use Rattle.service_core.specs.ArtifactForms.declared.batches.BatchCreateArtifacts.{BatchCreateArtifacts}
use Rattle.service_core.specs.ArtifactForms.declared.named.GetArtifact.{GetArtifact}
use Rattle.artifacts.specs.declared.new_artifact.NewArtifact.{NewArtifact}
use Rattle.artifacts.specs.Requests.{artifact_of}
use Rattle.names_realms.specs.declared.artifact_names.ArtifactName.{ArtifactName}
use Rattle.call_forms.specs.declared.asked.Asked.{Asked}
use Rattle.call_forms.specs.declared.forms.Answer.{Answer}
use Rattle.call_forms.specs.declared.forms.Refusal.{Refusal}
use Rattle.call_forms.specs.declared.forms.Told.TheVariants.{Made}
use Rattle.call_forms.specs.Rules.{refusal_answer}
use Rattle.service_core.specs.MessageForms.declared.replies.Reply.TheVariants as reply
use Rattle.service_core.specs.MessageForms.declared.requests.Request.TheVariants as asks
use Rattle.service_core.specs.RequestDemands.Alone.{Wants}
use Rattle.service_core.specs.RequestDemands.Settings.{HasNames, Settings}
use Rattle.service_core.specs.RequestEffects.Shows.{done}
use Rattle.service_effects.specs.Service.{ServiceWorld}
use Rattle.service_core.specs.History.{Entry, IsLegal, Leads}
use Rattle.service_core.specs.Step.{Performs}
use Rattle.service_laws.specs.Validity.{IsValid}

-- A batch of artifacts was accepted, and this is one of it.
pub record Records (s : Settings) (w : ServiceWorld) (moment : ℤ) (asked : Asked)
    (after : ServiceWorld) (new : NewArtifact) : Type 0 where
  pub answer : Answer
  pub performs : Performs s w moment asked after answer
  pub batch : BatchCreateArtifacts
  pub request_is : performs.request ≡ asks.BatchCreateArtifacts batch
  pub among : Contains batch.requests new

-- The artifact of this name is asked for.
pub record AsksForFile (s : Settings) (asked : Asked) (name : ArtifactName) : Type 0 where
  pub caller : ℕ
  pub request : GetArtifact
  pub wants : Wants s asked caller (asks.GetArtifact request)
  pub name_is : request.name ≡ name

-- The answer shows the artifact whole: its contents as they were given, and their SHA-256.
abbrev pub ShowsWhole : NewArtifact → Answer → Type 0
ShowsWhole new answer = answer ≡ done None (reply.Artifact (artifact_of new))

abbrev pub IsRefusedBy : Answer → Type 0
IsRefusedBy answer = (r : Refusal) × (answer ≡ refusal_answer r)

-- What was recorded is shown as it was given, however long after: each answer to a request for it
-- shows it whole, or refuses.
abbrev pub RecordedIsShown : Type 0
RecordedIsShown =
    (s : Settings) (w : ServiceWorld) (moment : ℤ) (asked : Asked) (after : ServiceWorld)
    (new : NewArtifact) (h : List Entry) (v : ServiceWorld) (e : Entry) (end : ServiceWorld)
    (answer : Answer)
    → HasNames s → IsValid after → Records s w moment asked after new → IsLegal s after h v
    → Leads s v e end → AsksForFile s e.asked new.name → e.told ≡ Made answer
    → ShowsWhole new answer ⊎ IsRefusedBy answer
