-- The number and the name of each fault.
use Rattle.std.specs.Prelude.{ℕ, List, codes}
use Rattle.tap_reader.specs.declared.faults.TapFault.{TapFault}
use Rattle.tap_reader.specs.declared.faults.TapFault.TheVariants.{NoVersion, TwoPlans, NoPlan, PlanExceeded, OpenDiagnostic, TooDeep, NotText, PlanTooLarge, Memory}

abbrev pub fault_number : TapFault → ℕ
fault_number NoVersion = 1
fault_number (TwoPlans n) = 2
fault_number NoPlan = 3
fault_number (PlanExceeded n) = 4
fault_number (OpenDiagnostic n) = 5
fault_number (TooDeep n) = 6
fault_number (NotText at) = 7
fault_number (PlanTooLarge n) = 8
fault_number Memory = 0

abbrev pub fault_name : TapFault → List ℕ
fault_name NoVersion = codes "NoVersion"
fault_name (TwoPlans n) = codes "TwoPlans"
fault_name NoPlan = codes "NoPlan"
fault_name (PlanExceeded n) = codes "PlanExceeded"
fault_name (OpenDiagnostic n) = codes "OpenDiagnostic"
fault_name (TooDeep n) = codes "TooDeep"
fault_name (NotText at) = codes "NotText"
fault_name (PlanTooLarge n) = codes "PlanTooLarge"
fault_name Memory = codes "Memory"
