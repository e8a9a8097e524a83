-- How a run of the sink ends.
use Rattle.std.specs.Prelude.{◌≡◌, ℕ, List, [], ◌++◌, codes, decimal, Result, Ok, Err}
use Rattle.error_lines.specs.Lines.{error_line}
use Rattle.outside.specs.Ends.{Outgoing}
use Rattle.outside.specs.Whole.{WritesWhole}
use Rattle.outside.specs.declared.whole.WriteEnd.{WriteEnd}
use Rattle.outside.specs.declared.whole.WriteEnd.TheVariants.{WriteFault, SinkTakesNothing}
use Rattle.sink_settings.specs.Faults as settings
use Rattle.sink_uploads.specs.declared.course.Sent.{Sent}
use Rattle.sink_uploads.specs.declared.course.SinkFault.{SinkFault}
use Rattle.sink_uploads.specs.declared.course.SinkFault.TheVariants as fault
use Rattle.sink_runs.specs.Reports as reports
use Rattle.sink_runs.specs.declared.ending.SinkEnd.{SinkEnd}
use Rattle.sink_runs.specs.declared.ending.SinkEnd.TheVariants.{ConfigFault, ConfigRefused, InputFault, ReportRefused, Memory, Unsent}
use Rattle.sink_runs.specs.declared.ending.SinkEnding.{SinkEnding}
use Rattle.sink_runs.specs.declared.ending.SinkEnding.TheVariants.{Stopped, Told}

abbrev pub fault_status : SinkFault → ℕ
fault_status (fault.GaveUp batch faults ends) = 4
fault_status (fault.Refused batch status) = 6
fault_status (fault.BadReply batch end) = 6
fault_status fault.Memory = 7

abbrev pub end_status : SinkEnd → ℕ
end_status ConfigFault = 4
end_status (ConfigRefused fault) = 2
end_status InputFault = 4
end_status (ReportRefused fault) = 5
end_status Memory = 7
end_status (Unsent fault) = fault_status fault

abbrev pub write_status : Result (Unit {0}) WriteEnd → ℕ
write_status (Ok done) = 0
write_status (Err WriteFault) = 4
write_status (Err SinkTakesNothing) = 9

abbrev pub sink_status : SinkEnding → ℕ
sink_status (Stopped end) = end_status end
sink_status (Told written) = write_status written

-- a text with a number and a name behind it
abbrev pub named : List ℕ → ℕ → List ℕ → List ℕ
named text number name = text ++ (decimal number ++ (codes " " ++ name))

abbrev pub fault_text : SinkFault → List ℕ
fault_text (fault.GaveUp batch faults ends) = codes "gave up on batch " ++ decimal batch
fault_text (fault.Refused batch status) =
    codes "batch " ++ (decimal batch ++ (codes " refused: " ++ decimal status))
fault_text (fault.BadReply batch end) =
    codes "batch " ++ (decimal batch ++ codes " refused: bad reply")
fault_text fault.Memory = codes "want of memory"

abbrev pub end_text : SinkEnd → List ℕ
end_text ConfigFault = codes "fault of config"
end_text (ConfigRefused f) =
    named (codes "configuration refused: ") (settings.fault_number f) (settings.fault_name f)
end_text InputFault = codes "fault of input"
end_text (ReportRefused f) =
    named (codes "report refused: ") (reports.fault_number f) (reports.fault_name f)
end_text Memory = codes "want of memory"
end_text (Unsent f) = fault_text f

abbrev pub write_line : Result (Unit {0}) WriteEnd → List ℕ
write_line (Ok done) = []
write_line (Err WriteFault) = error_line (codes "fault of output")
write_line (Err SinkTakesNothing) = error_line (codes "output takes nothing")

-- the line on the errors
abbrev pub sink_line : SinkEnding → List ℕ
sink_line (Stopped end) = error_line (end_text end)
sink_line (Told written) = write_line written

-- the line on the output
abbrev pub sent_text : Sent → List ℕ
sent_text sent =
    codes "sent " ++ decimal sent.cases
    ++ (codes " cases in " ++ decimal sent.batches ++ codes " batches\n")

-- The output got what was sent, as far as it took it; where the report wasn't uploaded it got
-- nothing.
abbrev pub Tells : Result Sent SinkEnd → Outgoing → SinkEnding → Outgoing → Type 0
Tells (Ok sent) before ending after =
    (written : Result (Unit {0}) WriteEnd) × (ending ≡ Told written)
    × WritesWhole before (sent_text sent) written after
Tells (Err end) before ending after = (ending ≡ Stopped end) × (after ≡ before)
