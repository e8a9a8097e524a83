-- What a report gives, and what became of it.
use Rattle.std.specs.Prelude.{ℕ, List, Ok, Err}
use Rattle.junit_parts.specs.Faults as junit
use Rattle.junit_parts.specs.Reports.{HasCases, HasFault}
use Rattle.junit_parts.specs.declared.faults.JunitFault.{JunitFault}
use Rattle.junit_parts.specs.declared.faults.JunitFault.TheVariants as junits
use Rattle.names_realms.specs.declared.states.Case.{Case}
use Rattle.outside.specs.Ends.{Incoming}
use Rattle.program_words.specs.declared.sink_words.ReportFormat.{ReportFormat}
use Rattle.program_words.specs.declared.sink_words.ReportFormat.TheVariants.{Tap, Junit}
use Rattle.tap_reader.specs.Faults as tap
use Rattle.tap_reader.specs.Reports.{Reads}
use Rattle.sink_runs.specs.Texts.{IsReadFar, FailsReading, IsLeft}
use Rattle.sink_runs.specs.declared.ending.SinkEnd.{SinkEnd}
use Rattle.sink_runs.specs.declared.ending.SinkEnd.TheVariants.{ConfigFault, ConfigRefused, InputFault, ReportRefused, Memory, Unsent}
use Rattle.sink_runs.specs.declared.report.ReportFault.{ReportFault}
use Rattle.sink_runs.specs.declared.report.ReportFault.TheVariants as fault

-- the most that is read of a report: the most that it may have, and three bytes more
abbrev pub most_of_report : ℕ
most_of_report = 67108867

abbrev pub fault_number : ReportFault → ℕ
fault_number (fault.Tap f) = tap.fault_number f
fault_number (fault.Junit f) = junit.fault_number f

abbrev pub fault_name : ReportFault → List ℕ
fault_name (fault.Tap f) = tap.fault_name f
fault_name (fault.Junit f) = junit.fault_name f

-- The report has these cases, read in this form.
abbrev pub GivesCases : ReportFormat → List ℕ → List Case → Type 0
GivesCases Tap report cases = Reads report (Ok cases)
GivesCases Junit report cases = HasCases report cases

-- It has this first fault, read in this form.
abbrev pub IsReportFault : ReportFormat → List ℕ → ReportFault → Type 0
IsReportFault Tap report (fault.Tap f) = Reads report (Err f)
IsReportFault Tap report (fault.Junit f) = ⊥
IsReportFault Junit report (fault.Tap f) = ⊥
IsReportFault Junit report (fault.Junit f) = HasFault report f

-- Why there are no cases of it: its first fault, or want of memory.
abbrev pub IsNoCases : ReportFormat → List ℕ → SinkEnd → Type 0
IsNoCases format report (ReportRefused fault) = IsReportFault format report fault
IsNoCases format report Memory = Unit {0}
IsNoCases format report ConfigFault = ⊥
IsNoCases format report (ConfigRefused fault) = ⊥
IsNoCases format report InputFault = ⊥
IsNoCases format report (Unsent fault) = ⊥

-- The code's own word: what a fault of a report in JUnit XML comes to.
abbrev pub junit_end : JunitFault → SinkEnd
junit_end junits.Memory = Memory
junit_end (junits.NotText at) = ReportRefused (fault.Junit (junits.NotText at))
junit_end (junits.NotWellFormed at) = ReportRefused (fault.Junit (junits.NotWellFormed at))
junit_end (junits.Unsupported at what) = ReportRefused (fault.Junit (junits.Unsupported at what))
junit_end junits.NoRoot = ReportRefused (fault.Junit junits.NoRoot)
junit_end (junits.MissingName at) = ReportRefused (fault.Junit (junits.MissingName at))
junit_end (junits.BadTime at) = ReportRefused (fault.Junit (junits.BadTime at))
junit_end (junits.TooDeep at) = ReportRefused (fault.Junit (junits.TooDeep at))

-- What was read of it where it gave none, by why it wasn't uploaded: a read failed; this is the
-- first fault of what was read; or memory was wanting.
abbrev pub IsNoReport : ReportFormat → Incoming → SinkEnd → Incoming → Type 0
IsNoReport format before InputFault after = FailsReading most_of_report before after
IsNoReport format before (ReportRefused fault) after =
    (text : List ℕ) × IsReadFar most_of_report before text after × IsReportFault format text fault
IsNoReport format before Memory after = IsLeft most_of_report before after
IsNoReport format before ConfigFault after = ⊥
IsNoReport format before (ConfigRefused fault) after = ⊥
IsNoReport format before (Unsent fault) after = ⊥
