-- Recorded commands, and the world to which each leads.
use Rattle.std.specs.Prelude.{⊤, ◌≡◌, ◌≢◌, ℕ, ◌+◌, ◌^◌, ◌<◌, ℤ, ◌≤ℤ◌, List, Option, Some, Result, Ok, Err, length}
use Rattle.kept_replies.specs.declared.reply.KeptReply.{KeptReply}
use Rattle.call_forms.specs.declared.asked.Asked.{Asked}
use Rattle.service_core.specs.MessageForms.declared.requests.Method.{Method}
use Rattle.service_core.specs.MessageForms.declared.requests.Method.TheVariants as method
use Rattle.service_core.specs.MessageForms.declared.requests.Request.{Request}
use Rattle.service_core.specs.MessageForms.Methods.{method_of, name_of, service_of}
use Rattle.service_core.specs.MessageForms.Reading.{Asks}
use Rattle.recorded_calls.specs.declared.command.CallKind.{CallKind}
use Rattle.recorded_calls.specs.declared.command.CallKind.TheVariants as kind
use Rattle.recorded_calls.specs.Commands.{CallSaid, IsCommand, Said, called, command_bytes, record_length, ticked}
use Rattle.service_core.specs.InvocationWorld.Advancing.{IsDueAt, IsQuiet}
use Rattle.service_core.specs.InvocationWorld.World.{IsCallMoment}
use Rattle.service_core.specs.RequestRules.Again.{IsRight, IsUnused}
use Rattle.service_core.specs.RequestDemands.Numbered.{asked_again}
use Rattle.service_core.specs.RequestDemands.Demands.{demand_of}
use Rattle.service_core.specs.RequestDemands.Settings.{HasNames, Settings, caller_name}
use Rattle.service_effects.specs.declared.effect.Effect.{Effect}
use Rattle.service_effects.specs.declared.effect.Effect.TheVariants as does
use Rattle.service_effects.specs.Effects.{Makes}
use Rattle.service_effects.specs.Fitting.{IsTimely}
use Rattle.service_effects.specs.Refused.{IsUnrefused}
use Rattle.service_effects.specs.Service.{ServiceWorld, recorded}
use Rattle.service_effects.specs.Storing.{IsStorable}
use Rattle.service_core.specs.RequestEffects.Effects.{effect_of}
use Rattle.service_core.specs.RequestEffects.Keeps.{kept_of, numbered_of, with_kept}
use Rattle.service_core.specs.RequestEffects.Places.{held_in}
use Rattle.service_replay.specs.declared.replaying.ReplayFault.{ReplayFault}
use Rattle.service_replay.specs.declared.replaying.ReplayFault.TheVariants.{OutOfPlace, Memory}
use Rattle.service_core.specs.Service.{CatchesUp}
use Rattle.service_core.specs.Step.{Acts, IsAccepted, effect_for}

-- The method that a recorded call was for.
abbrev pub recorded_method : CallKind → Option Method
recorded_method kind.CreateInvocation = Some method.CreateInvocation
recorded_method kind.UpdateInvocation = Some method.UpdateInvocation
recorded_method kind.FinalizeInvocation = Some method.FinalizeInvocation
recorded_method kind.UpdateIncludedInvocations = Some method.UpdateIncludedInvocations
recorded_method kind.BatchCreateTestResults = Some method.BatchCreateTestResults
recorded_method kind.BatchCreateTestExonerations = Some method.BatchCreateTestExonerations
recorded_method kind.BatchCreateArtifacts = Some method.BatchCreateArtifacts

-- what a recorded request does, by the name of its caller: no policy is asked
abbrev pub effect_again : ServiceWorld → CallSaid → Request → Effect
effect_again w call request = effect_of (recorded w) call.moment call.caller request

-- what is kept of it, if anything is
abbrev pub keep_again : ServiceWorld → CallSaid → Method → Request → Option KeptReply
keep_again w call method request =
    kept_of (recorded w) call.caller
    (numbered_of (asked_again method call.body) (demand_of request)) (effect_again w call request)

-- how many bytes the record of a call takes
abbrev pub length_again : CallSaid → ℕ
length_again call = record_length call.caller call.body

-- A recorded request is acted on again. Nothing was kept for its number, it breaks none of the
-- rules that are asked again, and it changes something: what it does is done, what is kept of it
-- stands behind what was kept before, and its record takes its bytes.
pub record ActsAgain (w : ServiceWorld) (call : CallSaid) (method : Method) (request : Request)
    (after : ServiceWorld) : Type 0 where
  pub unused : IsUnused w.kept call.caller (demand_of request)
  pub right : IsRight w.rows.invocations (held_in (recorded w)) call.moment (demand_of request)
  pub room : IsUnrefused (recorded w) (effect_again w call request)
  pub store : IsStorable w.stored (length_again call)
  pub changes : effect_again w call request ≢ does.Nothing
  pub made : Makes call.moment (effect_again w call request) (recorded w) (recorded after)
  pub kept : after.kept ≡ with_kept w.kept (keep_again w call method request)
  pub stored : after.stored ≡ w.stored + length_again call

-- A recorded call is made again, where it isn't before the last change, and nothing is due at its
-- moment: its body asks for a request of its method, which is acted on.
pub record ReplaysCall (w : ServiceWorld) (call : CallSaid) (after : ServiceWorld) : Type 0 where
  pub later : w.rows.last ≤ℤ call.moment
  pub quiet : IsQuiet w.rows call.moment
  pub method : Method
  pub for_method : recorded_method call.kind ≡ Some method
  pub request : Request
  pub asks : Asks (service_of method) (name_of method) call.body request
  pub acts : ActsAgain w call method request after

-- The deadlines that are due at a recorded moment, at least one, are carried out again.
pub record ReplaysTick (w : ServiceWorld) (moment : ℤ) (after : ServiceWorld) : Type 0 where
  pub later : w.rows.last ≤ℤ moment
  pub due : IsDueAt w.rows moment
  pub advances : CatchesUp w moment after

abbrev pub ReplaysSaid : ServiceWorld → Said → ServiceWorld → Type 0
ReplaysSaid w (ticked moment) after = ReplaysTick w moment after
ReplaysSaid w (called call) after = ReplaysCall w call after

-- The bytes are a command that leads from the world w to the world after.
pub record Replays (w : ServiceWorld) (command : List ℕ) (after : ServiceWorld) : Type 0 where
  pub said : Said
  pub is_command : IsCommand command said
  pub leads : ReplaysSaid w said after

-- There is no world to which this leads, where that is said of it.
abbrev pub IsRefused : (ServiceWorld → Type 0) → Result Unit ReplayFault → Type 0
IsRefused Leads (Ok done) = ⊤
IsRefused Leads (Err OutOfPlace) = (next : ServiceWorld) → ¬ Leads next
IsRefused Leads (Err Memory) = ⊤

-- A command leads from a world to one world alone.
abbrev pub ReplaysAreUnique : Type 0
ReplaysAreUnique =
    (w : ServiceWorld) (command : List ℕ) (v x : ServiceWorld) → Replays w command v
    → Replays w command x → v ≡ x

-- the command of what was asked at a moment, by a caller of this name
abbrev pub command_of : CallKind → ℤ → List ℕ → Asked → List ℕ
command_of kind moment name asked =
    command_bytes
    (called (record { kind = kind; moment = moment; caller = name; body = asked.body }))

-- Recorded calls of this kind are for the method of what was asked.
pub record IsKindOf (kind : CallKind) (asked : Asked) : Type 0 where
  pub method : Method
  pub for_method : recorded_method kind ≡ Some method
  pub named : method_of asked.service asked.method ≡ Some method

-- What was asked has a kind by which it is recorded, and the command of this kind leads to this
-- world.
pub record IsRecorded (w : ServiceWorld) (moment : ℤ) (name : List ℕ) (asked : Asked)
    (after : ServiceWorld) : Type 0 where
  pub some : (kind : CallKind) × IsKindOf kind asked
  pub replays : (kind : CallKind) → IsKindOf kind asked
      → Replays w (command_of kind moment name asked) after

-- The world to which an accepted request led, where it changes something, is the one to which its
-- command leads.
abbrev pub RecordedIsReplayed : Type 0
RecordedIsReplayed =
    (s : Settings) (w : ServiceWorld) (moment : ℤ) (asked : Asked) (caller : ℕ)
    (request : Request) (after : ServiceWorld)
    → HasNames s → IsTimely w.rows moment → length asked.body < 2 ^ 32
    → IsAccepted s w moment asked caller request
    → effect_for s w moment caller request ≢ does.Nothing
    → Acts s w moment asked caller request after
    → IsRecorded w moment (caller_name s caller) asked after

-- So is the world to which due deadlines led, with a tick.
abbrev pub TickIsReplayed : Type 0
TickIsReplayed =
    (w : ServiceWorld) (moment : ℤ) (after : ServiceWorld)
    → IsCallMoment moment → w.rows.last ≤ℤ moment → IsDueAt w.rows moment
    → CatchesUp w moment after → Replays w (command_bytes (ticked moment)) after
