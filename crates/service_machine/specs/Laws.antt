-- Laws of plans with their commands.
use Rattle.std.specs.Prelude.{ℕ, List}
use Rattle.service_replay.specs.ServiceEffects.Service.{ServiceWorld}
use Rattle.service_replay.specs.ServiceCore.CoreState.{CoreState, world_in}
use Rattle.service_replay.specs.ServiceCore.Plans.{Carries}
use Rattle.service_replay.specs.Replay.{Replays}
use Rattle.service_machine.specs.Machines.{IsFit, Plays, RecordedState}

-- The world to which the command of a plan that fits leads is the one that the plan makes.
abbrev pub ReplayedIsCarried : Type 0
ReplayedIsCarried =
    (core : CoreState) (p : RecordedState) (after : ServiceWorld) → IsFit core p
    → Plays (world_in core) p.command after → Carries (world_in core) p.plan after

-- A command that leads to a world leads to no other.
abbrev pub ReplaysAreAlone : Type 0
ReplaysAreAlone =
    (w : ServiceWorld) (command : List ℕ) (after : ServiceWorld) → Replays w command after
    → Plays w command after
