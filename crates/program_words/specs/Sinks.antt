-- The values of the words of an upload.
use Rattle.std.specs.Prelude.{◌≡◌, ℕ, List, [], Option, Some, codes, unwrap_or}
use Rattle.names_realms.specs.Names.{IsInvocationId}
use Rattle.program_words.specs.declared.sink_words.ReportFormat.{ReportFormat}
use Rattle.program_words.specs.declared.sink_words.ReportFormat.TheVariants.{Tap, Junit}
use Rattle.program_words.specs.declared.sink_words.SinkWords.{SinkWords}

-- the word of a form of reports
abbrev pub format_word : ReportFormat → List ℕ
format_word Tap = codes "tap"
format_word Junit = codes "junit"

-- The values that the options have are these. The invocation is the id of one, and the prefix is
-- empty where none is given.
pub record AreSinkValues (value : List ℕ → Option (List ℕ)) (words : SinkWords) : Type 0 where
  pub config_is : value (codes "config") ≡ Some words.config
  pub server_is : value (codes "server") ≡ Some words.server
  pub invocation_is : value (codes "invocation") ≡ Some words.invocation
  pub is_id : IsInvocationId words.invocation
  pub format_is : value (codes "format") ≡ Some (format_word words.format)
  pub prefix_is : unwrap_or (value (codes "prefix")) [] ≡ words.prefix
