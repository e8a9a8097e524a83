-- A run of the service.
use Rattle.std.specs.Prelude.{◌≡◌, ℕ, ℤ, Bool, List, [], Option, Result}
use Rattle.std.specs.Borrow.{GName}
use Rattle.dialers.specs.Dials.{Dials}
use Rattle.disks.specs.Moments.{Told}
use Rattle.door_workers.specs.declared.tally.Tally.{Tally}
use Rattle.outside.specs.Ends.{Ends, Outgoing}
use Rattle.outside.specs.Whole.{WritesWhole}
use Rattle.outside.specs.declared.whole.WriteEnd.{WriteEnd}
use Rattle.policy_tables.specs.declared.tables.PolicyTables.{PolicyTables}
use Rattle.served_desk.specs.RecordDesk.Standing.{AtEachCall, GoesThrough, HasLast, point_at}
use Rattle.result_journal.specs.Journals.{Leaves}
use Rattle.served_desk.specs.Posts.{ServesDoors}
use Rattle.served_desk.specs.ServiceCore.History.{Entry}
use Rattle.served_desk.specs.ServiceCore.Service.{Service, service_of}
use Rattle.service_effects.specs.Service.{ServiceWorld}
use Rattle.served_desk.specs.ServiceMachine.Machines.{Plays}
use Rattle.serve_runs.specs.Endings.{served_text}
use Rattle.serve_runs.specs.declared.ending.ServeEnding.{ServeEnding}
use Rattle.serve_runs.specs.declared.ending.ServeEnding.TheVariants.{Unserved, Served}

-- What a run goes over at one moment, as far as it tells: the disk and its count of faults, the
-- doors, and the output.
pub record Premises (A : Type 0) : Type 0 where
  pub disk : Option Told
  pub faults : ℕ
  pub doors : List A
  pub output : Outgoing

abbrev pub premises_of : {A D : Type 0} → (D → Option Told) → (D → ℕ) → D → List A → Outgoing
    → Premises A
premises_of told faults disk doors output =
    record { disk = told disk; faults = faults disk; doors = doors; output = output }

-- What was asked and told is one legal history from the world of the opened journal, under this
-- policy, at the moments that the clock's answers make. Each image of the disk has the world that
-- it led to; or, behind an entry that was told Unavailable after which none changed the world, the
-- one that there was to record of it. At each moment inside a call an image has what the entries
-- before left, or a world to which leads what there is to record of that entry.
pub record IsServedHistory {A : Type 0} (tables : PolicyTables) (opened : ServiceWorld)
    (tells_before : List ℤ → Type 0) (before : Premises A) (log : List Entry)
    (tells_after : List ℤ → Type 0) (after : Premises A) : Type 0 where
  pub last : Service
  pub goes : GoesThrough (service_of (record { policy = tables }) opened) tells_before
      before.faults log last tells_after after.faults
  pub leaves : Leaves after.disk (HasLast Plays (record { policy = tables }) opened log last.world)
  pub moments : AtEachCall Plays (service_of (record { policy = tables }) opened)
      (point_at [] opened before.disk) log (point_at log last.world after.disk)

-- All doors were served, in one history: what was asked on the links of each are the calls of its
-- number. The output got the sums of what was counted, as far as it took them.
pub record ServesAll {A L : Type 0} (tells : A → Dials L) (ends : L → Ends)
    (holds : L → List GName) (failed : Bool) (written : Result (Unit {0}) WriteEnd)
    (tables : PolicyTables) (opened : ServiceWorld)
    (tells_before : List ℤ → Type 0) (before : Premises A)
    (tells_after : List ℤ → Type 0) (after : Premises A) : Type 0 where
  pub log : List Entry
  pub history : IsServedHistory tables opened tells_before before log tells_after after
  pub sum : Tally
  pub serves : ServesDoors tells ends holds log before.doors sum after.doors
  pub failed_is : failed ≡ sum.failed
  pub told : WritesWhole before.output (served_text sum) written after.output

-- No door was asked, for want of memory, and nothing was recorded or written.
pub record ServesNone {A : Type 0} (tables : PolicyTables) (opened : ServiceWorld)
    (tells_before : List ℤ → Type 0) (before : Premises A)
    (tells_after : List ℤ → Type 0) (after : Premises A) : Type 0 where
  pub history : IsServedHistory tables opened tells_before before [] tells_after after
  pub doors : after.doors ≡ before.doors
  pub output : after.output ≡ before.output

-- A run, by how it ended.
abbrev pub IsServing : {A L : Type 0} → (A → Dials L) → (L → Ends) → (L → List GName)
    → ServeEnding → PolicyTables → ServiceWorld → (List ℤ → Type 0) → Premises A
    → (List ℤ → Type 0) → Premises A → Type 0
IsServing tells ends holds Unserved tables opened tells_before before tells_after after =
    ServesNone tables opened tells_before before tells_after after
IsServing tells ends holds (Served failed written) tables opened tells_before before tells_after
    after =
    ServesAll tells ends holds failed written tables opened tells_before before tells_after after
