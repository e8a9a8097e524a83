-- The grammar of spans of time: which text says which span.
use Rattle.std.specs.Prelude.{◌≡◌, ◌≢◌, ℕ, ◌+◌, ◌-◌, ◌*◌, ◌<◌, true, List, [], ◌∷◌, ◌++◌, length, fold}
use Rattle.std.specs.Int.{IsInRange}
use Rattle.std.specs.List.{list_all}
use Rattle.std.specs.Char.{is_ascii_digit}
use Rattle.name_parts.specs.declared.faults.NameFault.{NameFault}
use Rattle.name_parts.specs.declared.faults.NameFault.TheVariants.{Empty, BadByte, OutOfRange}
use Rattle.name_parts.specs.Grammar.{IsFirstBadPlace}
use Rattle.moments_spans.specs.MomentGrammar.{IsDecimals}
use Rattle.moments_spans.specs.Spans.{most_span}

-- the number that decimal digits say
abbrev pub number_of : List ℕ → ℕ
number_of digits = fold (λ n b. 10 * n + (b - 48)) 0 digits

-- one to twelve digits, decimals and `s`; as microseconds
pub record IsSpanText (text : List ℕ) (micros : ℕ) : Type 0 where
  pub digits : List ℕ
  pub are_digits : list_all is_ascii_digit digits ≡ true
  pub count : IsInRange 1 12 (length digits)
  pub decimals_text : List ℕ
  pub fraction : ℕ
  pub decimals : IsDecimals decimals_text fraction
  pub spelled : text ≡ digits ++ (decimals_text ++ 115 ∷ [])
  pub number : micros ≡ number_of digits * 1_000_000 + fraction

-- The text says some span, however long.
pub record SaysSpan (text : List ℕ) : Type 0 where
  pub micros : ℕ
  pub said : IsSpanText text micros

-- What is wrong with a text: it is empty, or breaks the grammar first here, or says more than
-- 315,576,000,000 seconds.
pub data IsSpanFault (text : List ℕ) (fault : NameFault) : Type 0 where
  empty : text ≡ [] → fault ≡ Empty → IsSpanFault text fault
  bad : text ≢ [] → (place : ℕ) → IsFirstBadPlace SaysSpan text place → fault ≡ BadByte place
      → IsSpanFault text fault
  outside : (micros : ℕ) → IsSpanText text micros → most_span < micros → fault ≡ OutOfRange
      → IsSpanFault text fault
