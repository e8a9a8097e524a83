-- The readers of constructs and of values read just what the grammar says.
use Rattle.std.specs.Prelude.{◌≡◌, ℕ, List, Some, Result}
use Rattle.junit_parts.specs.Constructs.{Token, token_from}
use Rattle.junit_parts.specs.Grammar.{Spells, SpellsValue}
use Rattle.junit_parts.specs.Values.{value_of}
use Rattle.junit_parts.specs.declared.faults.Flaw.{Flaw}

-- what is read as a construct is one
abbrev pub ReadIsSpelled : Type 0
ReadIsSpelled =
    (bytes rest : List ℕ) (token : Token)
    → token_from bytes ≡ Some (token, rest) → Spells bytes token rest

-- and each construct is read
abbrev pub SpelledIsRead : Type 0
SpelledIsRead =
    (bytes rest : List ℕ) (token : Token)
    → Spells bytes token rest → token_from bytes ≡ Some (token, rest)

-- what is read of a value is its text, or its first faulty reference
abbrev pub ReadValueIsSpelled : Type 0
ReadValueIsSpelled = (bytes : List ℕ) → SpellsValue bytes (value_of bytes)

-- and each text, and each such reference, is read
abbrev pub SpelledValueIsRead : Type 0
SpelledValueIsRead =
    (bytes : List ℕ) (read : Result (List ℕ) Flaw) → SpellsValue bytes read → value_of bytes ≡ read
