-- The code's own words: a journal that was opened by a core, and a workload that was run over it.
use Rattle.std.specs.Prelude.{◌≡◌, ℕ, ◌-◌, true, List, Option, Result, Ok, Err}
use Rattle.hex.specs.Hex.{decode_of}
use Rattle.disks.specs.Moments.{Told}
use Rattle.result_journal.specs.Journals.{end_of, is_settled}
use Rattle.result_journal.specs.declared.journal.Journal.{Journal}
use Rattle.journal_book.specs.Worlds.{Play}
use Rattle.journal_book.specs.Books.{Stands}
use Rattle.outside.specs.Moments.{AreSteps, Steps}
use Rattle.policy_tables.specs.declared.tables.PolicyTables.{PolicyTables}
use Rattle.program_words.specs.declared.workload_words.WorkloadWords.{WorkloadWords}
use Rattle.serve_runs.specs.RecordDesk.Standing.{HasServed}
use Rattle.serve_runs.specs.ServiceCore.Counting.{counts_of}
use Rattle.serve_runs.specs.ServiceCore.Service.{Service, service_of}
use Rattle.serve_runs.specs.ServiceMachine.Machines.{Plays}
use Rattle.serve_runs.specs.ServiceMachine.ServiceEffects.Service.{ServiceWorld, empty_service}
use Rattle.workload_runs.specs.WorkloadTurns.Runs.{LoadRun}
use Rattle.workload_runs.specs.WorkloadTurns.declared.stops.Stop.{Stop}
use Rattle.workload_runs.specs.WorkloadTurns.declared.tally.Tally.{Tally}
use Rattle.workload_runs.specs.declared.line.Load.{Load}
use Rattle.rdb_program.specs.Loads.{first_step}
use Rattle.rdb_program.specs.Run.{DiskEnd, Opens}

-- The journal was opened, its commands lead to this world, and nothing is to settle.
pub record OpensBook {D : Type 0} (told : D → Option Told) (plays : Play ServiceWorld)
    (before : DiskEnd) (w : ServiceWorld) (journal : Journal D) (after : DiskEnd) : Type 0 where
  pub opens : Opens before w after
  pub commands : List (List ℕ)
  pub stands : Stands told plays empty_service w journal commands
  pub settled : is_settled journal ≡ true

-- What a run over a journal came to that left this world.
abbrev pub load_of : {D : Type 0} → WorkloadWords → Tally → ServiceWorld → Journal D → Load
load_of words tally w journal = record {
  number = words.number;
  count = words.count;
  tally = tally;
  finalized = (counts_of w).finalized;
  bytes = end_of journal - 8;
}

-- It is told where the run came to its end, and else why it stopped.
abbrev pub IsToldOf : {D : Type 0} → WorkloadWords → ServiceWorld → Journal D → Result Tally Stop
    → Result Load Stop → Type 0
IsToldOf words w journal (Ok tally) result = result ≡ Ok (load_of words tally w journal)
IsToldOf words w journal (Err stop) result = result ≡ Err stop

-- A workload was run over a book of the service: its journal and its world were these, and are
-- those.
pub record RunsOver {D : Type 0} (told : D → Option Told) (faults : D → ℕ)
    (tables : PolicyTables) (words : WorkloadWords) (w : ServiceWorld) (first : Journal D)
    (result : Result Load Stop) (after : ServiceWorld) (journal : Journal D) : Type 0 where
  pub secret : List ℕ
  pub secret_is : decode_of tables.secret ≡ Ok secret
  pub steps : Steps
  pub last : Service
  pub left : last.world ≡ after
  pub ran : Result Tally Stop
  pub run : LoadRun (λ exchanges. HasServed told faults Plays
      (service_of (record { policy = tables }) w) (AreSteps first_step) first exchanges
      last (AreSteps steps) journal) secret words.number words.count ran
  pub told_of : IsToldOf words after journal ran result
