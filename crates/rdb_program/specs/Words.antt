-- What the words of the command line ask for.
use Rattle.std.specs.Prelude.{◌≡◌, ℕ, ◌⊎◌, List, Result, Ok, Err}
use Rattle.program_words.specs.Grammar.{Says}
use Rattle.program_words.specs.Texts.{help_text, version_text}
use Rattle.program_words.specs.declared.command.Command.{Command}
use Rattle.program_words.specs.declared.command.Command.TheVariants.{Answer, Check, Serve, Sink, Workload, Help, Version}
use Rattle.program_words.specs.declared.command.WordFault.{WordFault}
use Rattle.program_words.specs.declared.command.WordFault.TheVariants.{Refused, Memory}
use Rattle.program_words.specs.declared.serve_words.ServeWords.{ServeWords}
use Rattle.program_words.specs.declared.sink_words.SinkWords.{SinkWords}
use Rattle.program_words.specs.declared.workload_words.WorkloadWords.{WorkloadWords}

-- The words are outside the grammar.
abbrev pub SayNothing : List (List ℕ) → Type 0
SayNothing words = (command : Command) → ¬ Says words command

-- The words ask for one connection to be served, and name two paths.
abbrev pub IsAnswerWords : List (List ℕ) → Type 0
IsAnswerWords words = (config : List ℕ) × (journal : List ℕ) × Says words (Answer config journal)

-- The words ask for a journal to be counted, and name its path.
abbrev pub IsCheckWords : List (List ℕ) → Type 0
IsCheckWords words = (journal : List ℕ) × Says words (Check journal)

-- The words ask for all that comes in at an address to be served.
abbrev pub IsServeWords : List (List ℕ) → Type 0
IsServeWords words = (serve : ServeWords) × Says words (Serve serve)

-- The words ask for a workload.
abbrev pub IsWorkloadWords : List (List ℕ) → Type 0
IsWorkloadWords words = (load : WorkloadWords) × Says words (Workload load)

-- The words ask for an upload.
abbrev pub IsSinkWords : List (List ℕ) → Type 0
IsSinkWords words = (sink : SinkWords) × Says words (Sink sink)

-- The words ask for this text: that of help, or that of the version.
abbrev pub AskForText : List (List ℕ) → List ℕ → Type 0
AskForText words text =
    (Says words Help × (text ≡ help_text)) ⊎ (Says words Version × (text ≡ version_text))

-- The code's own word: what reading the words answered is what they say.
abbrev pub IsSaid : List (List ℕ) → Result Command WordFault → Type 0
IsSaid words (Ok command) = Says words command
IsSaid words (Err Refused) = SayNothing words
IsSaid words (Err Memory) = Unit {0}
