-- Laws of steps and histories.
use Rattle.std.specs.Prelude.{◌≡◌, ◌⊎◌, ℕ, ◌+◌, ◌*◌, ◌^◌, ◌<◌, ℤ, List, [], ◌∷◌, ◌++◌, Contains, Some, length, slice_get}
use Rattle.artifacts.specs.declared.artifact.Artifact.{Artifact}
use Rattle.artifacts.specs.Artifacts as artifacts
use Rattle.call_forms.specs.declared.asked.Asked.{Asked}
use Rattle.call_forms.specs.declared.forms.Answer.{Answer}
use Rattle.names_realms.specs.declared.states.State.TheVariants.{Finalized}
use Rattle.invocations.specs.declared.invocation.Invocation.{Invocation}
use Rattle.invocations.specs.Rows.{IsInState, states_of}
use Rattle.test_results.specs.declared.exoneration.TestExoneration.{TestExoneration}
use Rattle.test_results.specs.declared.result.TestResult.{TestResult}
use Rattle.test_results.specs.Exonerations as exonerations
use Rattle.test_results.specs.Results as results
use Rattle.service_core.specs.RequestDemands.Settings.{Settings, HasNames, caller_name}
use Rattle.service_core.specs.RequestDemands.Demands.{demand_of}
use Rattle.service_core.specs.RequestDemands.Numbered.{digest_of}
use Rattle.service_core.specs.RequestDemands.Alone.{Wants}
use Rattle.service_core.specs.RequestRules.Named.{place_named}
use Rattle.service_effects.specs.declared.effect.Effect.{Effect}
use Rattle.service_effects.specs.declared.effect.Effect.TheVariants as does
use Rattle.service_effects.specs.Effects.{Does}
use Rattle.service_effects.specs.Fitting.{IsTimely}
use Rattle.service_core.specs.RequestEffects.Keeps.{kept_answer}
use Rattle.service_effects.specs.Service.{ServiceWorld, empty_service}
use Rattle.call_forms.specs.declared.forms.Told.TheVariants.{Made}
use Rattle.kept_replies.specs.declared.reply.KeptReply.{KeptReply}
use Rattle.kept_replies.specs.Kept.{IsFor}
use Rattle.service_core.specs.MessageForms.declared.requests.Request.{Request}
use Rattle.invocation_world.specs.World.{World}
use Rattle.invocation_world.specs.World as worlds
use Rattle.invocation_world.specs.Laws.{KeepsFinal}
use Rattle.invocation_world.specs.Turns.{active_count}
use Rattle.recorded_calls.specs.Commands.{tick_length}
use Rattle.service_laws.specs.Finality.{AllInTime}
use Rattle.service_core.specs.Service.{CatchesUp}
use Rattle.service_laws.specs.Validity.{IsValid}
use Rattle.service_core.specs.Step.{Performs, Step, scene_of}
use Rattle.service_core.specs.History.{Entry, Leads, IsLegal}

-- A request at a moment leads from a world to some world, with some answer.
pub record HasStep (s : Settings) (w : ServiceWorld) (moment : ℤ) (asked : Asked)
    : Type 0 where
  pub after : ServiceWorld
  pub answer : Answer
  pub step : Step s w moment asked after answer

-- So does each request, at each moment, from each world.
abbrev pub HasSteps : Type 0
HasSteps =
    (s : Settings) (w : ServiceWorld) (moment : ℤ) (asked : Asked) → HasStep s w moment asked

-- And to one world alone, with one answer.
abbrev pub StepsAreUnique : Type 0
StepsAreUnique =
    (s : Settings) (w : ServiceWorld) (moment : ℤ) (asked : Asked)
    (v : ServiceWorld) (r : Answer) (x : ServiceWorld) (q : Answer)
    → Step s w moment asked v r → Step s w moment asked x q → (v ≡ x) × (r ≡ q)

-- The world in which nothing is recorded is valid.
abbrev pub EmptyIsValid : Type 0
EmptyIsValid = IsValid empty_service

-- A history from a valid world leads to a valid one, where the names of users have their form. So
-- no two invocations ever have one id.
abbrev pub LegalKeepsValid : Type 0
LegalKeepsValid =
    (s : Settings) (w : ServiceWorld) (h : List Entry) (v : ServiceWorld)
    → HasNames s → IsLegal s w h v → IsValid w → IsValid v

-- What is so of a row is so of it later: whose it is, where, and since when.
pub record IsSameInvocation (row later : Invocation) : Type 0 where
  pub id : later.id ≡ row.id
  pub realm : later.realm ≡ row.realm
  pub creator : later.creator ≡ row.creator
  pub created : later.created ≡ row.created

-- There is always place for the records of due deadlines: in each history from the empty world,
-- with a record more for each active invocation, the records stay below 2^30 bytes.
abbrev pub TicksFit : Type 0
TicksFit =
    (s : Settings) (h : List Entry) (v : ServiceWorld) → HasNames s → IsLegal s empty_service h v
    → v.stored + tick_length * active_count (states_of v.rows.invocations) < 2 ^ 30

-- A history takes no invocation away: each stands at its place, the same one.
abbrev pub RowsStay : Type 0
RowsStay =
    (s : Settings) (w : ServiceWorld) (h : List Entry) (v : ServiceWorld) → IsLegal s w h v
    → (place : ℕ) (row : Invocation) → slice_get w.rows.invocations place ≡ Some row
    → (later : Invocation) × (slice_get v.rows.invocations place ≡ Some later)
    × IsSameInvocation row later

-- A history takes no test result away, no exoneration and no artifact: those that it adds stand
-- behind the others, each of which stays as it is.
abbrev pub ResultsStay : Type 0
ResultsStay =
    (s : Settings) (w : ServiceWorld) (h : List Entry) (v : ServiceWorld) → IsLegal s w h v
    → (more : List TestResult) × (v.results ≡ w.results ++ more)

abbrev pub ExonerationsStay : Type 0
ExonerationsStay =
    (s : Settings) (w : ServiceWorld) (h : List Entry) (v : ServiceWorld) → IsLegal s w h v
    → (more : List TestExoneration) × (v.exonerations ≡ w.exonerations ++ more)

abbrev pub ArtifactsStay : Type 0
ArtifactsStay =
    (s : Settings) (w : ServiceWorld) (h : List Entry) (v : ServiceWorld) → IsLegal s w h v
    → (more : List Artifact) × (v.artifacts ≡ w.artifacts ++ more)

-- An effect leaves each invocation at its place, found by its id, and a new one after the others:
-- so what a request shows by a place is the invocation that it names, or makes.
pub record StaysNamed (w : World) (effect : Effect) (after : World) : Type 0 where
  pub named : (id : List ℕ) (place : ℕ) → place_named w.invocations id ≡ Some place
      → place_named after.invocations id ≡ Some place
  pub made : (row : Invocation) → effect ≡ does.Add row
      → place_named after.invocations row.id ≡ Some (length w.invocations)

abbrev pub ShownIsNamed : Type 0
ShownIsNamed =
    (w after : World) (moment : ℤ) (effect : Effect) → worlds.IsValid after
    → Does moment effect w after
    → StaysNamed w effect after

-- What is final holds the test results, exonerations and artifacts that it did.
pub record HoldsSame (w after : ServiceWorld) : Type 0 where
  pub results : (place : ℕ) → IsInState Finalized w.rows.invocations place
      → results.places_in after.results place ≡ results.places_in w.results place
  pub exonerations : (place : ℕ) → IsInState Finalized w.rows.invocations place
      → exonerations.places_in after.exonerations place
      ≡ exonerations.places_in w.exonerations place
  pub artifacts : (place : ℕ) → IsInState Finalized w.rows.invocations place
      → artifacts.places_in after.artifacts place ≡ artifacts.places_in w.artifacts place

-- What is final stays as it is, with all that it holds and reaches.
abbrev pub FinalStays : Type 0
FinalStays =
    (s : Settings) (w : ServiceWorld) (h : List Entry) (v : ServiceWorld)
    → HasNames s → IsValid w → IsLegal s w h v → KeepsFinal w.rows v.rows × HoldsSame w v

-- In a history from a valid world each finalizing row becomes final with the first change after
-- which it reaches no active one.
abbrev pub FinalInTime : Type 0
FinalInTime =
    (s : Settings) (w : ServiceWorld) (h : List Entry) (v : ServiceWorld)
    → HasNames s → IsValid w → IsLegal s w h v → AllInTime s w h v

-- An accepted request that has a number is kept under it, with its digest, and of what is kept the
-- answer that it got is made again.
pub record IsKeptFirst (s : Settings) (w : ServiceWorld) (asked : Asked) (name number : List ℕ)
    (after : ServiceWorld) (answer : Answer) : Type 0 where
  pub reply : KeptReply
  pub kept : after.kept ≡ w.kept ++ reply ∷ []
  pub own : IsFor name number reply
  pub digest : reply.digest ≡ digest_of asked
  pub again : kept_answer (scene_of s after) reply.answer ≡ answer

abbrev pub FirstIsKept : Type 0
FirstIsKept =
    (s : Settings) (w : ServiceWorld) (moment : ℤ) (asked : Asked) (after : ServiceWorld)
    (answer : Answer) (number : List ℕ)
    → HasNames s → IsTimely w.rows moment → (p : Performs s w moment asked after answer)
    → (demand_of p.request).number ≡ Some number
    → IsKeptFirst s w asked (caller_name s p.caller) number after answer

-- What is kept stays, and stands before what is kept later.
abbrev pub KeptStays : Type 0
KeptStays =
    (s : Settings) (w : ServiceWorld) (h : List Entry) (v : ServiceWorld) → IsLegal s w h v
    → (more : List KeptReply) × (v.kept ≡ w.kept ++ more)

-- An entry changes nothing but that due deadlines are carried out, and tells no answer but this one
-- where its digest is the one that was kept.
pub record IsAnsweredAgain (s : Settings) (first : ServiceWorld) (reply : KeptReply)
    (w : ServiceWorld) (e : Entry) (after : ServiceWorld) : Type 0 where
  pub unchanged : (after ≡ w) ⊎ CatchesUp w e.moment after
  pub answer : (answer : Answer) → e.told ≡ Made answer → reply.digest ≡ digest_of e.asked
      → answer ≡ kept_answer (scene_of s first) reply.answer

-- Each numbered request acts once: however long after it is sent again, by the same caller under
-- the same number, it changes nothing, and the same request gets the answer that was kept.
abbrev pub NumbersActOnce : Type 0
NumbersActOnce =
    (s : Settings) (w : ServiceWorld) (h : List Entry) (v : ServiceWorld) (e : Entry)
    (after : ServiceWorld) (reply : KeptReply) (caller : ℕ) (request : Request)
    → HasNames s → IsValid w → IsLegal s w h v → Leads s v e after
    → Contains w.kept reply → Wants s e.asked caller request
    → reply.caller ≡ caller_name s caller → (demand_of request).number ≡ Some reply.number
    → IsAnsweredAgain s w reply v e after
