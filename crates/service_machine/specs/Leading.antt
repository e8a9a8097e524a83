-- That a command leads to one world, and that of a plan that fits to some: what the trait of a
-- machine asks for.
use Rattle.std.proofs.Common.{◌≡◌, ℕ, ◌+◌, List, refl}
use Rattle.invocation_world.proofs.ExistFacts.{advance_there, settling_there}
use Rattle.service_replay.specs.ServiceEffects.Effects.{artifacts_after, exonerations_after, results_after}
use Rattle.service_replay.specs.ServiceEffects.Effects.{with_effect}
use Rattle.service_replay.specs.ServiceEffects.Service.{Recorded, ServiceWorld, recorded}
use Rattle.service_replay.specs.RequestEffects.Keeps.{with_kept}
use Rattle.service_replay.specs.ServiceCore.declared.plan.Work.{Work}
use Rattle.service_replay.specs.ServiceCore.declared.plan.Work.TheVariants as work
use Rattle.service_replay.specs.ServiceCore.CoreState.{CoreState, PlanState, world_in}
use Rattle.service_replay.specs.ServiceCore.Plans.{Carries, Works}
use Rattle.service_machine.specs.Machines.{IsFit, Plays, RecordedState}

pub works_there : (w : Recorded) (x : Work) → (after : Recorded) × Works w x after
works_there w (work.Tick moment) =
    let due = advance_there moment w.rows in (
      record {
        rows = due.0;
        results = w.results;
        exonerations = w.exonerations;
        artifacts = w.artifacts;
      },
      record { rows = due.1; results = refl; exonerations = refl; artifacts = refl },
    )
works_there w (work.Change change) =
    let settled = settling_there change.moment (with_effect change.moment change.effect w.rows) in (
      record {
        rows = settled.0;
        results = results_after change.effect w.results;
        exonerations = exonerations_after change.effect w.exonerations;
        artifacts = artifacts_after change.effect w.artifacts;
      },
      record { rows = settled.1; results = refl; exonerations = refl; artifacts = refl },
    )

-- each plan carries each world on to some world
pub carries_there : (w : ServiceWorld) (plan : PlanState)
    → (after : ServiceWorld) × Carries w plan after
carries_there w plan =
    let made = works_there (recorded w) plan.work in (
      record {
        rows = made.0.rows;
        results = made.0.results;
        exonerations = made.0.exonerations;
        artifacts = made.0.artifacts;
        kept = with_kept w.kept plan.keep;
        stored = w.stored + plan.length;
      },
      record { made = made.1; kept = refl; stored = refl },
    )

-- so the command of one that fits leads to some world
pub led : (core : CoreState) (p : RecordedState) → IsFit core p
    → (after : ServiceWorld) × Plays (world_in core) p.command after
led core p fit =
    let there = carries_there (world_in core) p.plan in
    (there.0, fit.leads there.0 there.1)

-- It leads to no other.
pub one_way : (w : ServiceWorld) (command : List ℕ) (v x : ServiceWorld) → Plays w command v
    → Plays w command x → v ≡ x
one_way w command v x this that = that.alone v this.replays
