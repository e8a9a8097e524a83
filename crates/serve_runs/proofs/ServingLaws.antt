-- A history that a book has recorded, as a run tells it.
use Rattle.std.proofs.Common.{◌≡◌, ℕ, ℤ, List, Option, sym, subst}
use Rattle.disks.specs.Moments.{Told}
use Rattle.policy_tables.specs.declared.tables.PolicyTables.{PolicyTables}
use Rattle.outside.specs.Ends.{Outgoing}
use Rattle.result_journal.specs.Journals.{disk_of}
use Rattle.result_journal.specs.declared.journal.Journal.{Journal}
use Rattle.served_desk.specs.RecordDesk.Standing.{HasRecorded}
use Rattle.served_desk.proofs.RecordDesk.StandingLaws.{served_leaves}
use Rattle.served_desk.specs.ServiceCore.History.{Entry}
use Rattle.served_desk.specs.ServiceCore.Service.{service_of}
use Rattle.service_effects.specs.Service.{ServiceWorld}
use Rattle.served_desk.specs.ServiceMachine.Machines.{Plays}
use Rattle.serve_runs.specs.Runs.{IsServedHistory, premises_of}

pub history_of : {A D T : Type 0} (told : D → Option Told) (faults : D → ℕ) (tells : T → List ℤ → Type 0) (tables : PolicyTables) (opened world : ServiceWorld)
    (start end clock : T) (first journal : Journal D) (disk : D) (log : List Entry) (doors now : List A) (output after : Outgoing)
    → disk ≡ disk_of journal → clock ≡ end
    → HasRecorded told faults Plays (service_of (record { policy = tables }) opened) (tells start) first log
    (service_of (record { policy = tables }) world) (tells end) journal
    → IsServedHistory tables opened (tells start) (premises_of told faults (disk_of first) doors output) log (tells clock)
    (premises_of told faults disk now after)
history_of {A} {D} {T} told faults tells tables opened world start end clock first journal disk log doors now output after disk_is clock_is recorded =
    subst (λ (d : D). IsServedHistory tables opened (tells start) (premises_of told faults (disk_of first) doors output) log (tells clock)
    (premises_of told faults d now after)) (sym disk_is)
    (subst (λ (t : T). IsServedHistory tables opened (tells start) (premises_of told faults (disk_of first) doors output) log (tells t)
    (premises_of told faults (disk_of journal) now after)) (sym clock_is)
    (record {
      last = service_of (record { policy = tables }) world;
      goes = recorded.goes;
      leaves = served_leaves told Plays (record { policy = tables }) opened log world journal recorded.book;
      moments = recorded.moments;
    }))
