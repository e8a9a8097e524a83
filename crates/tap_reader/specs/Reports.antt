-- What a report gives: its cases, or its first fault.
use Rattle.std.specs.Prelude.{◌≡◌, ℕ, ◌+◌, ◌<◌, ◌==◌, ◌&&◌, ◌||◌, if◌then◌else◌, nat_le, nat_eq, min, Bool, List, [], ◌∷◌, length, drop, codes, Option, Some, None, option_map, Result, Ok, Err}
use Rattle.std.specs.List.{list_all, starts_with}
use Rattle.std.specs.Str.Lossy.{utf8_valid_len}
use Rattle.names_realms.specs.declared.states.Case.{Case}
use Rattle.tap_reader.specs.declared.faults.TapFault.{TapFault}
use Rattle.tap_reader.specs.declared.faults.TapFault.TheVariants.{NoVersion, NotText}
use Rattle.tap_reader.specs.Lines.{lines}
use Rattle.tap_reader.specs.Counted.{Line, counted}
use Rattle.tap_reader.specs.Streams.{Stream, IsTree, report_fault}
use Rattle.tap_reader.specs.Cases.{names_len, report_cases}

-- The first place that is no text: where no UTF-8 goes on, or behind 64 MiB.
abbrev pub text_fault : List ℕ → Option ℕ
text_fault bytes =
    if utf8_valid_len bytes == length bytes && nat_le (length bytes) 67108864 then None
    else Some (min (utf8_valid_len bytes) 67108864)

-- a line of nothing but spaces and tabs
abbrev pub is_blank : List ℕ → Bool
is_blank line = list_all (λ b. b == 32 || b == 9) line

-- the versions that are read
unfoldable pub begins_version : List ℕ → Bool
begins_version line =
    starts_with nat_eq line (codes "TAP version 14")
    || starts_with nat_eq line (codes "TAP version 13")

-- the line that says the version, behind which spaces may stand
abbrev pub is_version : List ℕ → Bool
is_version line = begins_version line && list_all (λ b. b == 32) (drop 14 line)

-- the lines behind the version line, and the number of the first of them, where the first line that
-- isn't blank is one
abbrev pub after_version : ℕ → List (List ℕ) → Option (ℕ × List (List ℕ))
after_version n [] = None
after_version n (l ∷ ls) =
    if is_blank l then after_version (n + 1) ls else (if is_version l then Some (n + 1, ls)
    else None)

-- the lines of a report that count, if it has a version line
abbrev pub counted_in : List ℕ → Option (List Line)
counted_in bytes = option_map (λ p. counted p.0 0 p.1) (after_version 1 (lines bytes))

-- what the lines that count give, by their tree
abbrev pub judged : Option TapFault → Stream → Result (List Case) TapFault
judged None t = Ok (report_cases t)
judged (Some f) t = Err f

abbrev pub ReadsLines : Option (List Line) → Result (List Case) TapFault → Type 0
ReadsLines None outcome = outcome ≡ Err NoVersion
ReadsLines (Some ls) outcome = (t : Stream) × IsTree ls t × (outcome ≡ judged (report_fault ls t) t)

abbrev pub ReadsText : Option ℕ → List ℕ → Result (List Case) TapFault → Type 0
ReadsText (Some at) bytes outcome = outcome ≡ Err (NotText at)
ReadsText None bytes outcome = ReadsLines (counted_in bytes) outcome

-- a report gives these cases, or this fault
abbrev pub Reads : List ℕ → Result (List Case) TapFault → Type 0
Reads bytes outcome = ReadsText (text_fault bytes) bytes outcome

-- A report gives cases whose names have more than 512 MiB together.
abbrev pub HasLongNames : List ℕ → Type 0
HasLongNames bytes = (cases : List Case) × Reads bytes (Ok cases) × (536870912 < names_len cases)
