-- Names of several parts: what stands behind a literal, and what stands before the next `/` and
-- from there on.
use Rattle.std.specs.Prelude.{ℕ, ◌==◌, if◌then◌else◌, nat_eq, List, length, take, drop, Option, Some, option_map}
use Rattle.std.specs.List.{common_prefix_len, position_or_len}
use Rattle.std.specs.Option.{option_or}
use Rattle.name_parts.specs.declared.faults.NameFault.{NameFault}
use Rattle.name_parts.specs.declared.faults.NameFault.TheVariants.{Empty, BadByte}
use Rattle.name_parts.specs.Parts.{shifted}

-- The fault of a text that begins with a literal and goes on with what has this fault. It differs
-- from the literal at its first other byte, or at its length.
unfoldable pub behind : List ℕ → (List ℕ → Option NameFault) → List ℕ → Option NameFault
behind literal fault text =
    if common_prefix_len nat_eq text literal == length literal
    then option_map (shifted (length literal)) (fault (drop (length literal) text))
    else Some (BadByte (common_prefix_len nat_eq text literal))

-- the fault of a whole name, which isn't empty
abbrev pub unless_empty : (List ℕ → Option NameFault) → List ℕ → Option NameFault
unless_empty fault text = if length text == 0 then Some Empty else fault text

-- where the next `/` stands, or the length
abbrev pub slash_place : List ℕ → ℕ
slash_place text = position_or_len (λ b. b == 47) text

-- the fault of a part that ends at the next `/`, and of what goes on there
unfoldable pub up_to_slash : (List ℕ → Option NameFault) → (List ℕ → Option NameFault) → List ℕ
    → Option NameFault
up_to_slash first rest text =
    option_or (first (take (slash_place text) text))
    (option_map (shifted (slash_place text)) (rest (drop (slash_place text) text)))
