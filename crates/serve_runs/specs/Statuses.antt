-- What an exit status says of a run of the service.
use Rattle.std.specs.Prelude.{◌≡◌, ◌≢◌, ℕ, ◌⊎◌, false, List, [], ◌∷◌}
use Rattle.std.specs.Borrow.{GName}
use Rattle.std.specs.List.{AllZip}
use Rattle.dialers.specs.Dials.{Dials, NoneToCome}
use Rattle.door_workers.specs.declared.tally.Tally.{Tally}
use Rattle.fault_counts.specs.Causes.{Rose}
use Rattle.outside.specs.Bytes.{Took}
use Rattle.outside.specs.Ends.{Ends}
use Rattle.served_desk.specs.Posts.{ServesDoors}
use Rattle.served_desk.specs.ServiceCore.History.{Entry}
use Rattle.serve_runs.specs.Endings.{served_text}
use Rattle.serve_runs.specs.Runs.{Premises}

-- A call for a link failed at one of the doors, which counts that.
abbrev pub DoorFailed : {A L : Type 0} → (A → Dials L) → List A → List A → Type 0
DoorFailed tells [] after = ⊥
DoorFailed tells (before ∷ befores) [] = ⊥
DoorFailed tells (before ∷ befores) (after ∷ afters) =
    Rose (tells before).faults (tells after).faults ⊎ DoorFailed tells befores afters

-- It failed at none of them.
abbrev pub NoneFailed : {A L : Type 0} → (A → Dials L) → List A → List A → Type 0
NoneFailed tells before after =
    AllZip (λ a b. (tells b).faults ≡ (tells a).faults) before after

-- At none of them a link is to come.
abbrev pub AreAtEnd : {A L : Type 0} → (A → Dials L) → List A → List A → Type 0
AreAtEnd tells before after = AllZip (λ a b. NoneToCome (tells b).coming) before after

-- All doors were served to their ends, and the output got the sums of what was counted.
pub record IsServed {A L : Type 0} (tells : A → Dials L) (ends : L → Ends)
    (holds : L → List GName) (before after : Premises A) : Type 0 where
  pub log : List Entry
  pub sum : Tally
  pub serves : ServesDoors tells ends holds log before.doors sum after.doors
  pub at_end : AreAtEnd tells before.doors after.doors
  pub told : Took before.output.written (served_text sum) after.output.written

-- No door was asked, and nothing was written.
pub record IsUnserved {A : Type 0} (before after : Premises A) : Type 0 where
  pub doors : after.doors ≡ before.doors
  pub output : after.output ≡ before.output

-- What a status says.
pub record ServeSays {A L : Type 0} (tells : A → Dials L) (ends : L → Ends)
    (holds : L → List GName) (status : ℕ) (before after : Premises A) : Type 0 where
  -- It is one of these.
  pub known : (status ≡ 0) ⊎ ((status ≡ 4) ⊎ ((status ≡ 7) ⊎ (status ≡ 9)))
  -- 0: all doors were served to their ends, and that was told. 4: a door failed, or a write to the
  -- output did. 7: memory was wanting. 9: no door failed, and the output took nothing.
  pub done : status ≡ 0 → IsServed tells ends holds before after
  pub failed : status ≡ 4
      → DoorFailed tells before.doors after.doors ⊎ Rose before.output.faults after.output.faults
  pub unserved : status ≡ 7 → IsUnserved before after
  pub stalled : status ≡ 9 → Rose before.output.stalls after.output.stalls
  -- A count rises at the statuses that it stands for, or, of the output, where a door failed.
  pub no_door_fault : status ≢ 4 → NoneFailed tells before.doors after.doors
  pub no_write_fault : status ≢ 4 → after.output.faults ≡ before.output.faults
  pub no_stall : status ≢ 4 → status ≢ 9 → after.output.stalls ≡ before.output.stalls
