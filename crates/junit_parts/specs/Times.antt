-- The attribute `time`, in seconds.
use Rattle.std.specs.Prelude.{ℕ, ◌+◌, ◌-◌, ◌*◌, ◌^◌, ◌==◌, ◌&&◌, ◌||◌, nat_le, if◌then◌else◌, Bool, List, [], ◌∷◌, ◌++◌, length, take, drop, filter, Option, Some, None}
use Rattle.std.specs.Char.{is_ascii_digit}
use Rattle.junit_parts.specs.Bytes.{◌>>=◌, run_len}
use Rattle.junit_parts.specs.References.{number_from}

-- before the point commas stand among the digits
abbrev pub is_digit_or_comma : ℕ → Bool
is_digit_or_comma b = is_ascii_digit b || b == 44

abbrev pub without_commas : List ℕ → List ℕ
without_commas text = filter is_ascii_digit text

-- the digits behind a point, of which there may be none, and what stands behind them
abbrev pub fraction_from : List ℕ → List ℕ × List ℕ
fraction_from [] = ([], [])
fraction_from (b ∷ bs) =
    if b == 46 then (take (run_len is_ascii_digit bs) bs, drop (run_len is_ascii_digit bs) bs)
    else ([], b ∷ bs)

-- one to three digits
abbrev pub few_digits : List ℕ → Option ℕ
few_digits [] = None
few_digits (a ∷ []) = if is_ascii_digit a then Some (a - 48) else None
few_digits (a ∷ b ∷ []) =
    if is_ascii_digit a && is_ascii_digit b then Some (10 * (a - 48) + (b - 48)) else None
few_digits (a ∷ b ∷ c ∷ []) =
    if is_ascii_digit a && is_ascii_digit b && is_ascii_digit c
    then Some (100 * (a - 48) + 10 * (b - 48) + (c - 48))
    else None
few_digits (a ∷ b ∷ c ∷ d ∷ ds) = None

-- how many places the point moves to the right, and how many to the left
abbrev pub signed : ℕ → List ℕ → Option (ℕ × ℕ)
signed sign digits =
    if sign == 43 then (few_digits digits >>= λ n. Some (n, 0))
    else (if sign == 45 then (few_digits digits >>= λ n. Some (0, n))
    else None)

-- nothing, or `e` or `E`, a sign and one to three digits
abbrev pub exponent_from : List ℕ → Option (ℕ × ℕ)
exponent_from [] = Some (0, 0)
exponent_from (e ∷ []) = None
exponent_from (e ∷ sign ∷ digits) = if e == 101 || e == 69 then signed sign digits else None

-- Whole microseconds: the number up to the sixth digit behind the point, wherever the exponent
-- moved it. Digits behind that are dropped, and where there are fewer, zeros are added. `before` of
-- the digits stand before the point.
abbrev pub microseconds : List ℕ → ℕ → ℕ × ℕ → ℕ
microseconds digits before moved =
    number_from 10 0 (take (before + 6 + moved.0 - moved.1) digits)
    * 10 ^ (before + 6 + moved.0 - moved.1 - length digits)

-- the number of all of the text, of whose digits one at least stands before the point
abbrev pub number_of : List ℕ → List ℕ × List ℕ → Option ℕ
number_of [] fraction = None
number_of (d ∷ ds) fraction =
    exponent_from fraction.1
    >>= λ moved. Some (microseconds ((d ∷ ds) ++ fraction.0) (length (d ∷ ds)) moved)

unfoldable pub duration_from : List ℕ → Option ℕ
duration_from text =
    number_of (without_commas (take (run_len is_digit_or_comma text) text))
    (fraction_from (drop (run_len is_digit_or_comma text) text))

-- at most 315,576,000,000 seconds
abbrev pub fitting : ℕ → Option (Option ℕ)
fitting micros = if nat_le micros 315_576_000_000_000_000 then Some (Some micros) else None

-- What a time says: no duration where it is empty or begins with `-`, else its microseconds, or
-- nothing where it is no time.
unfoldable pub time_from : List ℕ → Option (Option ℕ)
time_from [] = Some None
time_from (b ∷ bs) = if b == 45 then Some None else (duration_from (b ∷ bs) >>= fitting)
