-- What became of the configuration.
use Rattle.std.specs.Prelude.{ℕ, List}
use Rattle.outside.specs.Ends.{Incoming}
use Rattle.sink_settings.specs.Settings.{IsSettingsOf, IsFirstFault}
use Rattle.sink_settings.specs.declared.settings.SinkSettings.{SinkSettings}
use Rattle.sink_runs.specs.Texts.{IsReadWhole, IsReadFar, FailsReading, IsLeft}
use Rattle.sink_runs.specs.declared.ending.SinkEnd.{SinkEnd}
use Rattle.sink_runs.specs.declared.ending.SinkEnd.TheVariants.{ConfigFault, ConfigRefused, InputFault, ReportRefused, Memory, Unsent}

-- the most that is read of a configuration: one byte more than it may have
abbrev pub most_of_config : ℕ
most_of_config = 4194305

-- Its text was read to its end, and has these two tokens.
abbrev pub HasSettings : Incoming → SinkSettings → Incoming → Type 0
HasSettings before settings after =
    (text : List ℕ) × IsReadWhole before text after × IsSettingsOf text settings

-- What was read of it where it gave none, by why the report wasn't uploaded: a read failed; this is
-- the first fault of what was read; or memory was wanting.
abbrev pub IsNoSettings : Incoming → SinkEnd → Incoming → Type 0
IsNoSettings before ConfigFault after = FailsReading most_of_config before after
IsNoSettings before (ConfigRefused fault) after =
    (text : List ℕ) × IsReadFar most_of_config before text after × IsFirstFault text fault
IsNoSettings before Memory after = IsLeft most_of_config before after
IsNoSettings before InputFault after = ⊥
IsNoSettings before (ReportRefused fault) after = ⊥
IsNoSettings before (Unsent fault) after = ⊥
