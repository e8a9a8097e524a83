-- The words behind a command, read one by one, as clap walks over them.
use Rattle.std.specs.Prelude.{◌≡◌, ℕ, ◌&&◌, Bool, true, false, not, List, [], ◌∷◌, ◌++◌, length, Option, Some, None, nat_lt, find, if◌then◌else◌}
use Rattle.std.specs.Str.{bytes_eq}
use Rattle.clap.specs.Lexer.{long_of}
use Rattle.program_words.specs.Options.{OptionRow, Given, is_given, begins_with_dash}

-- What waits between two words: nothing, an option for its value, or an option with its value for what follows it.
pub data Stand : Type 0 where
  rest : Stand
  waits : OptionRow → Stand
  has : OptionRow → List ℕ → Stand

abbrev pub given : OptionRow → List ℕ → Bool → Given
given o value is_joined = record { name = o.name; value = value; is_joined = is_joined }

abbrev pub row_by : List OptionRow → List ℕ → Option OptionRow
row_by options name = find (λ o. bytes_eq o.name name) options

-- an option is new, with a value
abbrev pub adds : List Given → Given → Bool
adds seen g = not (is_given seen g.name) && nat_lt 0 (length g.value)

abbrev pub added : List Given → Given → Option (List Given)
added seen g = if adds seen g then Some (seen ++ g ∷ []) else None

abbrev pub settle : List Given → Stand → Option (List Given)
settle seen rest = Some seen
settle seen (waits o) = None
settle seen (has o v) = added seen (given o v false)

abbrev pub and_then : Option (List Given) → (List Given → Option (List Given)) → Option (List Given)
and_then None next = None
and_then (Some gs) next = next gs

abbrev pub named : Option OptionRow → Option (List ℕ) → Option (List Given) → (List Given → Stand → Option (List Given)) → Option (List Given)
named None v s next = None
named (Some o) v None next = None
named (Some o) None (Some s) next = next s (waits o)
named (Some o) (Some v) (Some s) next = and_then (added s (given o v true)) (λ t. next t rest)

abbrev pub turn : List OptionRow → List Given → Stand → Option (List ℕ × Option (List ℕ)) → List ℕ
    → (List Given → Stand → Option (List Given)) → Option (List Given)
turn os seen st (Some p) w next = named (row_by os p.0) p.1 (settle seen st) next
turn os seen rest None w next = None
turn os seen (waits o) None w next = next seen (has o w)
turn os seen (has o v) None w next = None

-- the options that were given, where the words give options
abbrev pub after : List OptionRow → List Given → Stand → List (List ℕ) → Option (List Given)
after os seen st [] = settle seen st
after os seen st (w ∷ ws) = turn os seen st (long_of w) w (λ s t. after os s t ws)

-- what waits is an option of the command, and a value that follows its option begins with no dash
abbrev pub IsKnown : List OptionRow → Stand → Type 0
IsKnown os rest = Unit {0}
IsKnown os (waits o) = row_by os o.name ≡ Some o
IsKnown os (has o v) = (row_by os o.name ≡ Some o) × (begins_with_dash v ≡ false)
