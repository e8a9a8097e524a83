-- A run of the workload over a journal that was opened.
use Rattle.std.specs.Prelude.{◌≡◌, ℕ, pos, List, length, Option, Result, Ok, Err}
use Rattle.hex.specs.Hex.{decode_of}
use Rattle.disks.specs.Moments.{Told}
use Rattle.journal_book.specs.Worlds.{Leads}
use Rattle.outside.specs.Moments.{Steps}
use Rattle.workload_runs.specs.PolicyReading.Reading.{IsPolicyOf}
use Rattle.policy_tables.specs.declared.tables.PolicyTables.{PolicyTables}
use Rattle.program_words.specs.declared.workload_words.WorkloadWords.{WorkloadWords}
use Rattle.result_journal.specs.Grammar.{records}
use Rattle.result_journal.specs.Journals.{Leaves, ReadsAs}
use Rattle.serve_runs.specs.ServiceCore.Counting.{counts_of}
use Rattle.serve_runs.specs.ServiceMachine.Machines.{Plays}
use Rattle.serve_runs.specs.ServiceMachine.ServiceEffects.Service.{ServiceWorld, empty_service}
use Rattle.workload_runs.specs.Policies.{policy_text}
use Rattle.workload_runs.specs.WorkloadTurns.declared.stops.Stop.{Stop}
use Rattle.workload_runs.specs.WorkloadTurns.declared.tally.Tally.{Tally}
use Rattle.workload_runs.specs.declared.line.Load.{Load}

-- The clock of a workload begins on 2023-11-14 at 22:13:20, and goes on by a millisecond for each
-- request.
abbrev pub first_step : Steps
first_step = record { present = pos 1_700_000_000_000_000; step = pos 1_000 }

-- The policy of a workload, and the secret that it has.
pub record IsLoadPolicy (tables : PolicyTables) (secret : List ℕ) : Type 0 where
  pub policy : IsPolicyOf policy_text tables
  pub secret_is : decode_of tables.secret ≡ Ok secret

-- What a run came to that left this world and this disk: the counts are the world's, and the bytes
-- are those of the records that the disk has, which lead to it.
pub record ComesTo (words : WorkloadWords) (tally : Tally) (w : ServiceWorld) (disk : Option Told)
    (load : Load) : Type 0 where
  pub number : load.number ≡ words.number
  pub count : load.count ≡ words.count
  pub tally_is : load.tally ≡ tally
  pub finalized : load.finalized ≡ (counts_of w).finalized
  pub commands : List (List ℕ)
  pub leads : Leads Plays empty_service commands w
  pub leaves : Leaves disk (ReadsAs commands)
  pub bytes : load.bytes ≡ length (records commands)

-- So it was, where the run came to its end.
abbrev pub ComesBy : WorkloadWords → ServiceWorld → Option Told → Result Tally Stop
    → Result Load Stop → Type 0
ComesBy words w disk (Ok tally) (Ok load) = ComesTo words tally w disk load
ComesBy words w disk (Ok tally) (Err stop) = ⊥
ComesBy words w disk (Err stop) (Ok load) = ⊥
ComesBy words w disk (Err stop) (Err told) = told ≡ stop
