-- The number and the name of a fault.
use Rattle.std.specs.Prelude.{ℕ, List, codes}
use Rattle.junit_parts.specs.declared.faults.JunitFault.{JunitFault}
use Rattle.junit_parts.specs.declared.faults.JunitFault.TheVariants.{NotText, NotWellFormed, Unsupported, NoRoot, MissingName, BadTime, TooDeep, Memory}

abbrev pub fault_number : JunitFault → ℕ
fault_number (NotText at) = 1
fault_number (NotWellFormed at) = 2
fault_number (Unsupported at what) = 3
fault_number NoRoot = 4
fault_number (MissingName at) = 5
fault_number (BadTime at) = 6
fault_number (TooDeep at) = 7
fault_number Memory = 0

abbrev pub fault_name : JunitFault → List ℕ
fault_name (NotText at) = codes "NotText"
fault_name (NotWellFormed at) = codes "NotWellFormed"
fault_name (Unsupported at what) = codes "Unsupported"
fault_name NoRoot = codes "NoRoot"
fault_name (MissingName at) = codes "MissingName"
fault_name (BadTime at) = codes "BadTime"
fault_name (TooDeep at) = codes "TooDeep"
fault_name Memory = codes "Memory"
