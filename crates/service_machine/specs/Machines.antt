-- Plans of the service that carry the command by which they are recorded.
use Rattle.std.specs.Prelude.{◌≡◌, ℕ, ◌^◌, ◌<◌, ℤ, List, Some, length}
use Rattle.result_journal.specs.Grammar.{IsBody}
use Rattle.call_forms.specs.declared.asked.Asked.{Asked}
use Rattle.recorded_calls.specs.declared.command.CallKind.{CallKind}
use Rattle.service_replay.specs.RequestDemands.Settings.{Settings, caller_name, caller_of}
use Rattle.service_replay.specs.ServiceEffects.Service.{ServiceWorld}
use Rattle.service_replay.specs.ServiceCore.CoreState.{CoreState, PlanState, world_in}
use Rattle.service_replay.specs.ServiceCore.Plans.{Carries, Fits}
use Rattle.service_replay.specs.Replay.{IsKindOf, Replays, command_of}

-- A plan, and its command.
pub record RecordedState : Type 0 where
  pub plan : PlanState
  pub command : List ℕ

-- The command leads from the world w to the world after, and to no other.
pub record Plays (w : ServiceWorld) (command : List ℕ) (after : ServiceWorld) : Type 0 where
  pub replays : Replays w command after
  pub alone : (other : ServiceWorld) → Replays w command other → other ≡ after

-- The plan fits the core, and its command is one of a record, and leads to the world that the plan
-- makes.
pub record IsFit (core : CoreState) (p : RecordedState) : Type 0 where
  pub fits : Fits core p.plan
  pub body : IsBody p.command
  pub leads : (after : ServiceWorld) → Carries (world_in core) p.plan after
      → Plays (world_in core) p.command after

-- The command of what was asked, at this moment, by the name of its caller.
pub record IsCommandOf (s : Settings) (moment : ℤ) (asked : Asked) (command : List ℕ)
    : Type 0 where
  pub kind : CallKind
  pub of_kind : IsKindOf kind asked
  pub caller : ℕ
  pub caller_is : caller_of s asked.bearer ≡ Some caller
  pub form : command ≡ command_of kind moment (caller_name s caller) asked

-- The command of what was asked has more bytes than a record may have.
abbrev pub IsTooLong : Settings → ℤ → Asked → Type 0
IsTooLong s moment asked =
    (command : List ℕ) → IsCommandOf s moment asked command → 2 ^ 23 < length command
