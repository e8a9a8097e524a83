-- The code's own words for the lines that it reads.
use Rattle.std.specs.Prelude.{◌≡◌, ℕ, ◌+◌, ◌≤◌, List, length, take, drop}
use Rattle.tap_reader.specs.declared.reading.Diagnostic.{Diagnostic}
use Rattle.tap_reader.specs.declared.reading.Diagnostic.TheVariants as diagnostic
use Rattle.tap_reader.specs.Lines.{lines}
use Rattle.tap_reader.specs.LineForms.{said_by}
use Rattle.tap_reader.specs.Counted.{Absent, Endless, Line, Whole, counted, found_in, passed_over}

-- this is the diagnostic of a point of the level, behind which the text stands
abbrev pub IsDiagnostic : ℕ → List ℕ → Diagnostic → Type 0
IsDiagnostic level text diagnostic.Absent = found_in level (lines text) ≡ Absent
IsDiagnostic level text diagnostic.Endless = found_in level (lines text) ≡ Endless
IsDiagnostic level text (diagnostic.Whole body count rest) =
    (found_in level (lines text) ≡ Whole (take count (lines body.now)))
    × (count ≤ length (lines body.now)) × (lines rest.now ≡ drop (count + 2) (lines text))
    × (count + 2 + length rest.now ≤ length text)

-- the lines that count behind line n, which the text follows
abbrev pub counted_behind : ℕ → List ℕ → List ℕ → List Line
counted_behind n line text = counted (n + 1) (passed_over (said_by line) (lines text)) (lines text)
