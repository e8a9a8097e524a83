-- How a run of the service ends.
use Rattle.std.specs.Prelude.{ℕ, true, false, List, [], ◌++◌, codes, decimal, Result, Ok, Err}
use Rattle.door_workers.specs.declared.tally.Tally.{Tally}
use Rattle.error_lines.specs.Lines.{error_line}
use Rattle.outside.specs.declared.whole.WriteEnd.{WriteEnd}
use Rattle.outside.specs.declared.whole.WriteEnd.TheVariants.{WriteFault, SinkTakesNothing}
use Rattle.serve_runs.specs.declared.ending.ServeEnding.{ServeEnding}
use Rattle.serve_runs.specs.declared.ending.ServeEnding.TheVariants.{Unserved, Served}

-- what is printed once all doors were served
abbrev pub served_text : Tally → List ℕ
served_text sum =
    codes "connections " ++ decimal sum.connections
    ++ (codes ", calls " ++ decimal sum.calls ++ codes "\n")

abbrev pub write_status : Result (Unit {0}) WriteEnd → ℕ
write_status (Ok done) = 0
write_status (Err WriteFault) = 4
write_status (Err SinkTakesNothing) = 9

abbrev pub write_line : Result (Unit {0}) WriteEnd → List ℕ
write_line (Ok done) = []
write_line (Err WriteFault) = error_line (codes "fault of output")
write_line (Err SinkTakesNothing) = error_line (codes "output takes nothing")

-- the exit status
abbrev pub serve_status : ServeEnding → ℕ
serve_status Unserved = 7
serve_status (Served true written) = 4
serve_status (Served false written) = write_status written

-- the line on the errors
abbrev pub serve_line : ServeEnding → List ℕ
serve_line Unserved = error_line (codes "want of memory")
serve_line (Served true written) = error_line (codes "fault of door")
serve_line (Served false written) = write_line written
