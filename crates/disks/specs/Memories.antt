-- What a disk in memory tells.
use Rattle.std.specs.Prelude.{◌≡◌, ◌≢◌, ℕ, List, map, Option, Some, unwrap_or}
use Rattle.std.proofs.Common.{subst, ap}
use Rattle.fault_counts.specs.Calls.{Calls, outcome_of, times_listed}
use Rattle.fault_counts.specs.declared.schedule.Outcome.TheVariants.{Works}
use Rattle.disks.specs.Calls.{ReadsAsImage}
use Rattle.disks.specs.declared.part_state.PartState.{PartState}
use Rattle.disks.specs.Parts.{Part, Parts, MayLeave, as_read, IsPartImage}
use Rattle.disks.specs.Moments.{Told, after}
use Rattle.disks.specs.PartStates.{state}
use Rattle.disks.specs.declared.memory.Moment.{Moment}

abbrev pub parts_by : Moment → Parts
parts_by m = record { first = state m.first; second = state m.second }

abbrev pub told_by : Moment → List Moment → Told
told_by now past = record { now = parts_by now; past = map parts_by past }

-- What is told when a part stands otherwise at the next moment.
abbrev pub advanced : Moment → List Moment → ℕ → Part → Told
advanced now past number part = after (told_by now past) number part

-- A call works where its number isn't listed and the disk hasn't stopped.
abbrev pub WorksNow : Calls → Option ℕ → Type 0
WorksNow calls stop = (outcome_of (times_listed calls) ≡ Works) × (stop ≢ Some 0)

image_of : (p : PartState) → IsPartImage (state p) (state p).bytes
image_of p = p.image

told_at : (now : Moment) (past : List Moment) (t : Told) → Some (told_by now past) ≡ Some t
    → told_by now past ≡ t
told_at now past t same = ap (λ (o : Option Told). unwrap_or o t) same

pub memory_reads_as_image : (now : Moment) (past : List Moment)
    → ReadsAsImage (Some (told_by now past))
memory_reads_as_image now past t is =
    subst (λ (u : Told). MayLeave u.now (as_read u.now)) (told_at now past t is)
    (record { first = image_of now.first; second = image_of now.second })
