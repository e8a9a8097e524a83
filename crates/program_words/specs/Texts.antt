-- The texts that tell of the program.
use Rattle.std.specs.Prelude.{ℕ, List, [], ◌∷◌, ◌++◌, codes, flat_map, if◌then◌else◌}
use Rattle.program_words.specs.Options.{OptionRow}
use Rattle.program_words.specs.Grammar.{answer_options, check_options, serve_options, sink_options, workload_options}

-- a line, with its line feed
abbrev pub line : List ℕ → List ℕ
line text = text ++ 10 ∷ []

-- an option as help shows it: in brackets where it may be left out
abbrev pub shown_option : OptionRow → List ℕ
shown_option o =
    if o.is_required then codes " --" ++ o.name ++ codes " " ++ o.shown
    else codes " [--" ++ o.name ++ codes " " ++ o.shown ++ codes "]"

-- a command with its options
abbrev pub shown_command : List ℕ → List OptionRow → List ℕ
shown_command name options = name ++ flat_map shown_option options

-- the commands with their words, one line each
abbrev pub help_text : List ℕ
help_text =
    line (shown_command (codes "answer") answer_options)
    ++ line (shown_command (codes "check") check_options)
    ++ line (shown_command (codes "serve") serve_options)
    ++ line (shown_command (codes "sink") sink_options)
    ++ line (shown_command (codes "workload") workload_options)
    ++ line (codes "--help") ++ line (codes "--version")

abbrev pub version_text : List ℕ
version_text = line (codes "rdb 0.1.0")
