-- The texts of attributes (XML 1.0, 3.3.3 without the folding of white space).
use Rattle.std.specs.Prelude.{ℕ, zero, suc, ◌==◌, if◌then◌else◌, List, [], ◌∷◌, ◌++◌, length, encode_utf8, Option, Some, None, Result, Ok, Err}
use Rattle.std.specs.Borrow.{Bor}
use Rattle.std.specs.Str.{bytes_eq}
use Rattle.junit_parts.specs.References.{reference_from}
use Rattle.junit_parts.specs.Tags.{AttributeText, TagText}
use Rattle.junit_parts.specs.declared.faults.Cause.TheVariants.{NotWellFormed, Unsupported}
use Rattle.junit_parts.specs.declared.faults.Flaw.{Flaw}
use Rattle.junit_parts.specs.declared.faults.Unsupported.TheVariants.{Entity}
use Rattle.junit_parts.specs.declared.references.Meaning.{Meaning}
use Rattle.junit_parts.specs.declared.references.Meaning.TheVariants.{Character, Foreign}

-- text in front of what follows
abbrev pub put_text : List ℕ → Result (List ℕ) Flaw → Result (List ℕ) Flaw
put_text front (Ok text) = Ok (front ++ text)
put_text front (Err flaw) = Err flaw

-- what a reference with so many bytes from its `&` on stands for, and what stands behind it
abbrev pub reference_at : ℕ → Option (Meaning × List ℕ) → Result (ℕ × List ℕ) Flaw
reference_at left None = Err (record { left = left; cause = NotWellFormed })
reference_at left (Some found) = elim found.0 [
  | Character c ↦ Ok (c, found.1)
  | Foreign ↦ Err (record { left = left; cause = Unsupported Entity })
]

-- its character in front of what follows it
abbrev pub behind_reference :
    (List ℕ → Result (List ℕ) Flaw) → Result (ℕ × List ℕ) Flaw → Result (List ℕ) Flaw
behind_reference next (Ok found) = put_text (encode_utf8 found.0) (next found.1)
behind_reference next (Err flaw) = Err flaw

-- The text of a value of at most so many bytes, each reference as its character; or its first
-- faulty reference.
unfoldable pub value_from : ℕ → List ℕ → Result (List ℕ) Flaw
value_from zero bytes = Ok []
value_from (suc n) [] = Ok []
value_from (suc n) (b ∷ bs) =
    if b == 38
    then behind_reference (λ rest. value_from n rest)
    (reference_at (length (b ∷ bs)) (reference_from bs))
    else put_text (b ∷ []) (value_from n bs)

abbrev pub value_of : List ℕ → Result (List ℕ) Flaw
value_of bytes = value_from (length bytes) bytes

-- the value of the attribute of this name
abbrev pub value_named : List ℕ → List AttributeText → Option (List ℕ)
value_named name [] = None
value_named name (a ∷ attributes) =
    if bytes_eq a.name name then Some a.value else value_named name attributes

abbrev pub value_or_nothing : Option (List ℕ) → Result (List ℕ) Flaw
value_or_nothing None = Ok []
value_or_nothing (Some value) = value_of value

-- its text, nothing where there is no such attribute
abbrev pub named_text : List ℕ → TagText → Result (List ℕ) Flaw
named_text name tag = value_or_nothing (value_named name tag.attributes)

abbrev pub flaw_in : Result (List ℕ) Flaw → Option Flaw
flaw_in (Ok text) = None
flaw_in (Err flaw) = Some flaw

-- what a function of the code gives
abbrev pub seen_reference : Result (ℕ × Bor (List ℕ)) Flaw → Result (ℕ × List ℕ) Flaw
seen_reference (Ok found) = Ok (found.0, found.1.now)
seen_reference (Err flaw) = Err flaw
