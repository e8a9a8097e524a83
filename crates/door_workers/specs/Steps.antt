-- What a worker does with the next link of its door.
use Rattle.std.specs.Prelude.{◌≡◌, ℕ, List, [], ◌∷◌, Option, Some, None, Result, Ok, Err}
use Rattle.std.specs.Borrow.{GName}
use Rattle.fault_counts.specs.declared.Failed.{Failed}
use Rattle.outside.specs.Ends.{Ends}
use Rattle.dialers.specs.Dials.{Dials, Accepts}
use Rattle.tellers.specs.Exchange.{Exchange}
use Rattle.door_workers.specs.Visits.{Visit, WasServed, PassedThrough}

-- One link was served, on which so many calls were made.
pub record ServesOne {L : Type 0} (ends : L → Ends) (holds : L → List GName)
    (asked : List Exchange → Type 0) (before : Dials L) (calls : ℕ) (after : Dials L) : Type 0 where
  pub visit : Visit L
  pub served : WasServed ends holds visit
  pub asked_these : asked visit.exchanges
  pub calls_are : calls ≡ visit.ended.calls
  pub passed : PassedThrough before (visit ∷ []) after
  pub faults : after.faults ≡ before.faults

-- The next link was served. Or there was none, or the call for it failed, and the teller wasn't
-- asked.
abbrev pub ServesNext : {L : Type 0} → (L → Ends) → (L → List GName) → (List Exchange → Type 0)
    → Dials L → Result (Option ℕ) Failed → Dials L → Type 0
ServesNext ends holds asked before (Ok (Some calls)) after =
    ServesOne ends holds asked before calls after
ServesNext {L} ends holds asked before (Ok None) after =
    asked [] × Accepts {L = L} before (Ok None) after
ServesNext {L} ends holds asked before (Err e) after =
    asked [] × Accepts {L = L} before (Err e) after
