-- What a worker did at its door.
use Rattle.std.specs.Prelude.{◌≡◌, ◌≤◌, Bool, true, false, List, All}
use Rattle.std.specs.Borrow.{GName}
use Rattle.fault_counts.specs.Causes.{Rose}
use Rattle.outside.specs.Ends.{Ends}
use Rattle.dialers.specs.Dials.{Dials, NoneToCome}
use Rattle.tellers.specs.Exchange.{Exchange}
use Rattle.door_workers.specs.Tallies.{Counts}
use Rattle.door_workers.specs.Visits.{Visit, WasServed, PassedThrough, exchanges_on}
use Rattle.door_workers.specs.declared.tally.Tally.{Tally}

-- A worker served the links of its door, one after the other, and counted them. `asked` says of
-- exchanges that its teller was asked them, in order.
pub record Work {L : Type 0} (ends : L → Ends) (holds : L → List GName)
    (asked : List Exchange → Type 0) (before : Dials L) (tally : Tally) (after : Dials L)
    : Type 0 where
  pub visits : List (Visit L)
  pub served : All (WasServed ends holds) visits
  pub passed : PassedThrough before visits after
  pub asked_all : asked (exchanges_on visits)
  pub counts : Counts tally visits

-- How a worker's work ended: a call for a link failed, which its door counts; or none failed, and
-- no link is to come.
abbrev pub EndsWork : {L : Type 0} → Bool → Dials L → Dials L → Type 0
EndsWork true before after = (before.faults ≤ after.faults) × Rose before.faults after.faults
EndsWork false before after = (after.faults ≡ before.faults) × NoneToCome after.coming

-- A worker served its door to the end, or until a call for a link failed.
pub record ServesDoor {L : Type 0} (ends : L → Ends) (holds : L → List GName)
    (asked : List Exchange → Type 0) (before : Dials L) (tally : Tally) (after : Dials L)
    : Type 0 where
  pub work : Work ends holds asked before tally after
  pub end : EndsWork tally.failed before after
