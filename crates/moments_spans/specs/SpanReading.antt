-- How the code reads a span from left to right. Callers read `SpanGrammar`, which says what it
-- finds.
use Rattle.std.specs.Prelude.{ℕ, zero, suc, ◌+◌, ◌-◌, ◌*◌, ◌==◌, if◌then◌else◌, nat_le, List, [], ◌∷◌, length, Result, Ok, Err}
use Rattle.std.specs.Char.{is_ascii_digit}
use Rattle.name_parts.specs.declared.faults.NameFault.{NameFault}
use Rattle.name_parts.specs.declared.faults.NameFault.TheVariants.{Empty, BadByte, OutOfRange}
use Rattle.moments_spans.specs.MomentReading.{◌>>=◌, byte_from, decimals_from}
use Rattle.moments_spans.specs.Spans.{most_span}

-- up to so many digits more of a number
unfoldable pub whole_from : ℕ → ℕ → List ℕ → ℕ × List ℕ
whole_from zero so_far text = (so_far, text)
whole_from (suc left) so_far [] = (so_far, [])
whole_from (suc left) so_far (b ∷ bs) =
    if is_ascii_digit b then whole_from left (10 * so_far + (b - 48)) bs else (so_far, b ∷ bs)

-- at least one digit, and up to twelve
unfoldable pub seconds_from : List ℕ → Result (ℕ × List ℕ) ℕ
seconds_from [] = Err 0
seconds_from (b ∷ bs) =
    if is_ascii_digit b then Ok (whole_from 12 0 (b ∷ bs)) else Err (length (b ∷ bs))

-- nothing more
abbrev pub span_ended : ℕ → List ℕ → Result ℕ ℕ
span_ended micros [] = Ok micros
span_ended micros (b ∷ bs) = Err (length (b ∷ bs))

-- a span in microseconds, all of the text
unfoldable pub span_from : List ℕ → Result ℕ ℕ
span_from text = do
  seconds ← seconds_from text
  decimals ← decimals_from seconds.1
  behind ← byte_from 115 decimals.1
  span_ended (seconds.0 * 1_000_000 + decimals.0) behind

unfoldable pub span_judged : ℕ → Result ℕ ℕ → Result ℕ NameFault
span_judged len (Ok micros) = if nat_le micros most_span then Ok micros else Err OutOfRange
span_judged len (Err left) = Err (BadByte (len - left))

-- What a text reads as: its span, or what is wrong with it.
abbrev pub span_of : List ℕ → Result ℕ NameFault
span_of text = if length text == 0 then Err Empty else span_judged (length text) (span_from text)
