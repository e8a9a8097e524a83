-- The code's own words: what it keeps of a text of which no more than a front is told.
use Rattle.std.specs.Prelude.{◌≡◌, ℕ, min, List, take, Result, Ok, Err}
use Rattle.junit_parts.specs.Messages.{solid_len}
use Rattle.junit_parts.specs.declared.faults.Flaw.{Flaw}
use Rattle.junit_reader.specs.declared.own_text.OwnText.{OwnText}

-- One byte more than is told: it says whether a character goes over the last place.
abbrev pub front : List ℕ → List ℕ
front text = take 1025 text

abbrev pub front_of : Result (List ℕ) Flaw → Result (List ℕ) Flaw
front_of (Ok text) = Ok (front text)
front_of (Err flaw) = Err flaw

-- the front of a text, and up to where in it the last byte stands that isn't white space
pub record IsKept (own : OwnText) (text : List ℕ) : Type 0 where
  pub bytes : own.front.items ≡ front text
  pub solid : own.solid ≡ min 1025 (solid_len text)
