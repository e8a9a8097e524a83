-- Spans of time: their text, and how long they may be.
use Rattle.std.specs.Prelude.{ℕ, ◌/◌, ◌%◌, List, [], ◌∷◌, ◌++◌}
use Rattle.std.specs.Fmt.{decimal}
use Rattle.moments_spans.specs.Moments.{decimals}

-- the text of so many microseconds: whole seconds, the fewest decimals that are exact, and `s`
unfoldable pub span_text : ℕ → List ℕ
span_text micros = decimal (micros / 1_000_000) ++ (decimals (micros % 1_000_000) ++ 115 ∷ [])

-- at most 315,576,000,000 seconds, which is about ten thousand years
abbrev pub most_span : ℕ
most_span = 315_576_000_000_000_000
