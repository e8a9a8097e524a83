-- What led from an office to the one that comes back.
use Rattle.std.proofs.Common.{◌≡◌, ℕ, ℤ, List, [], Option, sym, subst}
use Rattle.std.specs.Borrow.{GName}
use Rattle.outside.specs.Ends.{Ends}
use Rattle.dialers.specs.Dials.{Dials}
use Rattle.disks.specs.Moments.{Told as DiskTold}
use Rattle.policy_tables.specs.declared.tables.PolicyTables.{PolicyTables}
use Rattle.result_journal.specs.declared.journal.Journal.{Journal}
use Rattle.service_desk.specs.ServiceEffects.Service.{ServiceWorld}
use Rattle.service_desk.specs.ServiceCore.CoreState.{world_in}
use Rattle.service_desk.specs.ServiceCore.History.{Entry}
use Rattle.service_desk.specs.ServiceCore.Service.{service_of}
use Rattle.service_desk.specs.ServiceMachine.Machines.{Plays}
use Rattle.service_desk.specs.RequestDemands.Settings.{Settings}
use Rattle.service_desk.specs.RecordDesk.Standing.{HasRecorded}
use Rattle.service_desk.proofs.RecordDesk.StandingLaws.{recorded_opened}
use Rattle.door_workers.specs.Tallies.{nothing_counted}
use Rattle.door_workers.specs.declared.tally.Tally.{Tally}
use Rattle.service_desk.specs.Shelves.{IsOpened, Led, service_on}
use Rattle.service_desk.specs.declared.shelf.Shelf.{Shelf}
use Rattle.served_desk.specs.Histories.{WentThrough}
use Rattle.served_desk.specs.Posts.{ServesDoors}

pub went_through : {D C S : Type 0} (told : D → Option DiskTold) (faults : D → ℕ) (tells : C → List ℤ → Type 0) (start now : Shelf D C S)
    (log : List Entry) → Led told faults tells start log now
    → WentThrough told faults tells start log (world_in now.book.machine.core) now.clock now.book.journal
went_through told faults tells start now log led =
    subst (λ (s : Settings). HasRecorded told faults Plays (service_on start) (tells start.clock) start.book.journal log
    (service_of s (world_in now.book.machine.core)) (tells now.clock) now.book.journal) led.goes.settings led

pub nothing_went : {D C S : Type 0} (told : D → Option DiskTold) (faults : D → ℕ) (tells : C → List ℤ → Type 0) (start : Shelf D C S)
    (log : List Entry) (w : ServiceWorld) (clock : C) (journal : Journal D) → log ≡ [] → WentThrough told faults tells start log w clock journal
    → WentThrough told faults tells start [] w clock journal
nothing_went told faults tells start log w clock journal none went =
    subst (λ (l : List Entry). WentThrough told faults tells start l w clock journal) none went

-- What led from a desk's start led from the book and the clock that it began with.
pub from_start : {D C S : Type 0} (told : D → Option DiskTold) (faults : D → ℕ) (tells : C → List ℤ → Type 0) (start : Shelf D C S) (tables : PolicyTables)
    (world : ServiceWorld) (first : Journal D) (given clock : C) (log : List Entry) (w : ServiceWorld) (journal : Journal D)
    → start.policy.value ≡ tables → world_in start.book.machine.core ≡ world → start.book.journal ≡ first → start.clock ≡ given
    → WentThrough told faults tells start log w clock journal
    → HasRecorded told faults Plays (service_of (record { policy = tables }) world) (tells given) first log
    (service_of (record { policy = tables }) w) (tells clock) journal
from_start {D} {C} told faults tells start tables world first given clock log w journal policy_is world_is first_is clock_is went =
    let From : PolicyTables → ServiceWorld → Journal D → C → Type 0 =
    λ p v j c. HasRecorded told faults Plays (service_of (record { policy = p }) v) (tells c) j log (service_of (record { policy = p }) w) (tells clock) journal in
    subst (λ (p : PolicyTables). From p world first given) policy_is
    (subst (λ (v : ServiceWorld). From start.policy.value v first given) world_is
    (subst (λ (j : Journal D). From start.policy.value (world_in start.book.machine.core) j given) first_is
    (subst (λ (c : C). From start.policy.value (world_in start.book.machine.core) start.book.journal c) clock_is went)))

-- An opened book and its clock have recorded nothing yet.
pub nothing_recorded : {D C : Type 0} (told : D → Option DiskTold) (faults : D → ℕ) (tells : C → List ℤ → Type 0) (tables : PolicyTables)
    (world w : ServiceWorld) (first journal : Journal D) (clock now : C) → IsOpened told world first → w ≡ world → journal ≡ first → now ≡ clock
    → HasRecorded told faults Plays (service_of (record { policy = tables }) world) (tells clock) first []
    (service_of (record { policy = tables }) w) (tells now) journal
nothing_recorded {D} {C} told faults tells tables world w first journal clock now opened world_is journal_is clock_is =
    let To : ServiceWorld → Journal D → C → Type 0 =
    λ v j c. HasRecorded told faults Plays (service_of (record { policy = tables }) world) (tells clock) first [] (service_of (record { policy = tables }) v) (tells c) j in
    subst (λ (v : ServiceWorld). To v journal now) (sym world_is)
    (subst (λ (j : Journal D). To world j now) (sym journal_is)
    (subst (λ (c : C). To world first c) (sym clock_is)
    (recorded_opened told faults Plays (service_of (record { policy = tables }) world) (tells clock) first opened.commands opened.stands opened.settled)))

-- No doors are served by nobody.
pub no_doors : {A L : Type 0} (tells : A → Dials L) (ends : L → Ends) (holds : L → List GName) (doors : List A) (sum : Tally) → doors ≡ []
    → sum ≡ nothing_counted → ServesDoors tells ends holds [] doors sum doors
no_doors tells ends holds doors sum none is = record {
  posts = [];
  before_are = none;
  after_are = none;
  served = tt;
  numbers = tt;
  sum_is = is;
}
