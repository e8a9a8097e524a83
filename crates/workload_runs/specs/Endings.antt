-- How a run of the workload ends.
use Rattle.std.specs.Prelude.{ℕ, List, [], codes, Result, Ok, Err}
use Rattle.error_lines.specs.Lines.{error_line}
use Rattle.outside.specs.declared.whole.WriteEnd.{WriteEnd}
use Rattle.outside.specs.declared.whole.WriteEnd.TheVariants.{WriteFault, SinkTakesNothing}
use Rattle.workload_runs.specs.declared.ending.LoadEnding.{LoadEnding}
use Rattle.workload_runs.specs.declared.ending.LoadEnding.TheVariants.{Stopped, Told}
use Rattle.workload_turns.specs.declared.stops.Stop.TheVariants.{Unavailable, Memory}

abbrev pub write_status : Result (Unit {0}) WriteEnd → ℕ
write_status (Ok done) = 0
write_status (Err WriteFault) = 4
write_status (Err SinkTakesNothing) = 9

abbrev pub write_line : Result (Unit {0}) WriteEnd → List ℕ
write_line (Ok done) = []
write_line (Err WriteFault) = error_line (codes "fault of output")
write_line (Err SinkTakesNothing) = error_line (codes "output takes nothing")

-- the exit status
abbrev pub load_status : LoadEnding → ℕ
load_status (Stopped Unavailable) = 4
load_status (Stopped Memory) = 7
load_status (Told written) = write_status written

-- the line on the errors
abbrev pub load_fault : LoadEnding → List ℕ
load_fault (Stopped Unavailable) = error_line (codes "fault of disk")
load_fault (Stopped Memory) = error_line (codes "want of memory")
load_fault (Told written) = write_line written
