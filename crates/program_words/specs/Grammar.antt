-- The grammar of the words behind the program's name.
use Rattle.std.specs.Prelude.{◌≡◌, ℕ, true, false, List, [], ◌∷◌, Some, codes}
use Rattle.program_words.specs.Options.{OptionRow, Given, AreOptions, value_of}
use Rattle.program_words.specs.Serves.{AreServeValues}
use Rattle.program_words.specs.Sinks.{AreSinkValues}
use Rattle.program_words.specs.Workloads.{AreWorkloadValues}
use Rattle.program_words.specs.declared.command.Command.{Command}
use Rattle.program_words.specs.declared.command.Command.TheVariants.{Answer, Check, Serve, Sink, Workload, Help, Version}
use Rattle.program_words.specs.declared.serve_words.ServeWords.{ServeWords}
use Rattle.program_words.specs.declared.sink_words.SinkWords.{SinkWords}
use Rattle.program_words.specs.declared.workload_words.WorkloadWords.{WorkloadWords}

-- a required path
abbrev pub path_option : List ℕ → OptionRow
path_option name = record { name = name; shown = codes "PATH"; is_required = true }

-- the options of `answer`
abbrev pub answer_options : List OptionRow
answer_options = path_option (codes "config") ∷ path_option (codes "journal") ∷ []

-- the options of `check`
abbrev pub check_options : List OptionRow
check_options = path_option (codes "journal") ∷ []

-- the options of `serve`
abbrev pub serve_options : List OptionRow
serve_options =
    path_option (codes "config")
    ∷ path_option (codes "journal")
    ∷ record { name = codes "listen"; shown = codes "ADDR"; is_required = true }
    ∷ record { name = codes "workers"; shown = codes "K"; is_required = true }
    ∷ record { name = codes "connections"; shown = codes "N"; is_required = false } ∷ []

-- the options of `sink`
abbrev pub sink_options : List OptionRow
sink_options =
    path_option (codes "config")
    ∷ record { name = codes "server"; shown = codes "ADDR"; is_required = true }
    ∷ record { name = codes "invocation"; shown = codes "ID"; is_required = true }
    ∷ record { name = codes "format"; shown = codes "tap|junit"; is_required = true }
    ∷ record { name = codes "prefix"; shown = codes "TEXT"; is_required = false } ∷ []

-- the options of `workload`
abbrev pub workload_options : List OptionRow
workload_options =
    path_option (codes "journal")
    ∷ record { name = codes "number"; shown = codes "N"; is_required = true }
    ∷ record { name = codes "count"; shown = codes "M"; is_required = true } ∷ []

-- The words are a command's name, and behind it these options of its table.
pub record AreWordsOf (name : List ℕ) (table : List OptionRow) (words : List (List ℕ))
    (givens : List Given) : Type 0 where
  pub rest : List (List ℕ)
  pub command : words ≡ name ∷ rest
  pub options : AreOptions table givens rest

-- `answer` with these paths
pub record IsAnswer (words : List (List ℕ)) (config journal : List ℕ) : Type 0 where
  pub givens : List Given
  pub words_are : AreWordsOf (codes "answer") answer_options words givens
  pub config_is : value_of (codes "config") givens ≡ Some config
  pub journal_is : value_of (codes "journal") givens ≡ Some journal

-- `check` with this path
pub record IsCheck (words : List (List ℕ)) (journal : List ℕ) : Type 0 where
  pub givens : List Given
  pub words_are : AreWordsOf (codes "check") check_options words givens
  pub journal_is : value_of (codes "journal") givens ≡ Some journal

-- `serve` with these values
pub record IsServe (words : List (List ℕ)) (serve : ServeWords) : Type 0 where
  pub givens : List Given
  pub words_are : AreWordsOf (codes "serve") serve_options words givens
  pub values_are : AreServeValues (λ name. value_of name givens) serve

-- `sink` with these values
pub record IsSink (words : List (List ℕ)) (sink : SinkWords) : Type 0 where
  pub givens : List Given
  pub words_are : AreWordsOf (codes "sink") sink_options words givens
  pub values_are : AreSinkValues (λ name. value_of name givens) sink

-- `workload` with these values
pub record IsWorkload (words : List (List ℕ)) (load : WorkloadWords) : Type 0 where
  pub givens : List Given
  pub words_are : AreWordsOf (codes "workload") workload_options words givens
  pub values_are : AreWorkloadValues (λ name. value_of name givens) load

-- What the words say. Every other list of words is outside the grammar.
abbrev pub Says : List (List ℕ) → Command → Type 0
Says words (Answer config journal) = IsAnswer words config journal
Says words (Check journal) = IsCheck words journal
Says words (Serve serve) = IsServe words serve
Says words (Sink sink) = IsSink words sink
Says words (Workload load) = IsWorkload words load
Says words Help = words ≡ codes "--help" ∷ []
Says words Version = words ≡ codes "--version" ∷ []
