-- The faults of a sink's configuration.
use Rattle.std.specs.Prelude.{ℕ, List, codes}
use Rattle.sink_settings.specs.declared.fault.SettingsFault.{SettingsFault}
use Rattle.sink_settings.specs.declared.fault.SettingsFault.TheVariants.{NotToml, BadName, TooMany, BadShape, Memory}

abbrev pub fault_number : SettingsFault → ℕ
fault_number NotToml = 1
fault_number (BadName at) = 2
fault_number (TooMany count) = 7
fault_number (BadShape at) = 8
fault_number Memory = 0

abbrev pub fault_name : SettingsFault → List ℕ
fault_name NotToml = codes "NotToml"
fault_name (BadName at) = codes "BadName"
fault_name (TooMany count) = codes "TooMany"
fault_name (BadShape at) = codes "BadShape"
fault_name Memory = codes "Memory"
