-- No name of a fault is long.
use Rattle.std.proofs.Common.{◌≤◌, length, arith}
use Rattle.junit_parts.specs.Faults as junit
use Rattle.junit_parts.specs.declared.faults.JunitFault.{JunitFault}
use Rattle.junit_parts.specs.declared.faults.JunitFault.TheVariants as junits
use Rattle.sink_settings.specs.Faults as settings
use Rattle.sink_settings.specs.declared.fault.SettingsFault.{SettingsFault}
use Rattle.sink_settings.specs.declared.fault.SettingsFault.TheVariants as refusals
use Rattle.sink_runs.specs.Reports as reports
use Rattle.sink_runs.specs.declared.report.ReportFault.{ReportFault}
use Rattle.sink_runs.specs.declared.report.ReportFault.TheVariants as faults
use Rattle.tap_reader.specs.Faults as tap
use Rattle.tap_reader.specs.declared.faults.TapFault.{TapFault}
use Rattle.tap_reader.specs.declared.faults.TapFault.TheVariants as taps

tap_name_short : (f : TapFault) → length (tap.fault_name f) ≤ 24
tap_name_short taps.NoVersion = omega arith
tap_name_short (taps.TwoPlans n) = omega arith
tap_name_short taps.NoPlan = omega arith
tap_name_short (taps.PlanExceeded n) = omega arith
tap_name_short (taps.OpenDiagnostic n) = omega arith
tap_name_short (taps.TooDeep n) = omega arith
tap_name_short (taps.NotText at) = omega arith
tap_name_short (taps.PlanTooLarge n) = omega arith
tap_name_short taps.Memory = omega arith

junit_name_short : (f : JunitFault) → length (junit.fault_name f) ≤ 24
junit_name_short (junits.NotText at) = omega arith
junit_name_short (junits.NotWellFormed at) = omega arith
junit_name_short (junits.Unsupported at what) = omega arith
junit_name_short junits.NoRoot = omega arith
junit_name_short (junits.MissingName at) = omega arith
junit_name_short (junits.BadTime at) = omega arith
junit_name_short (junits.TooDeep at) = omega arith
junit_name_short junits.Memory = omega arith

pub settings_name_short : (f : SettingsFault) → length (settings.fault_name f) ≤ 24
settings_name_short refusals.NotToml = omega arith
settings_name_short (refusals.BadName at) = omega arith
settings_name_short (refusals.TooMany count) = omega arith
settings_name_short (refusals.BadShape at) = omega arith
settings_name_short refusals.Memory = omega arith

pub name_short : (f : ReportFault) → length (reports.fault_name f) ≤ 24
name_short (faults.Tap f) = tap_name_short f
name_short (faults.Junit f) = junit_name_short f
