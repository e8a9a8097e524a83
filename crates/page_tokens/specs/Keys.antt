-- Keys: parts one behind the other, and where bytes break a key.
use Rattle.std.specs.Prelude.{◌≡◌, ◌≢◌, ℕ, ◌+◌, ◌*◌, ◌||◌, ◌==◌, nat_lt, Bool, if◌then◌else◌, List, [], ◌∷◌, ◌++◌, length, take, drop, Option, Some, None, option_map}
use Rattle.std.specs.Option.{option_or}
use Rattle.std.specs.Int.{w16, to_le_bytes}
use Rattle.name_parts.specs.declared.parts.PartForm.{PartForm}
use Rattle.name_parts.specs.Parts.{IsPart, bad_place, most_bytes}
use Rattle.page_tokens.specs.declared.keys.KeyPart.{KeyPart}
use Rattle.page_tokens.specs.declared.keys.KeyPart.TheVariants.{Plain, Text}

-- what a part may hold: so many bytes of any kind, or a text of its form
abbrev pub IsContent : KeyPart → List ℕ → Type 0
IsContent (Plain len) content = length content ≡ len
IsContent (Text form) content = IsPart form content

-- The bytes of a part. In front of a text stands its length in two bytes, the lower first.
abbrev pub part_bytes : KeyPart → List ℕ → List ℕ
part_bytes (Plain len) content = content
part_bytes (Text form) content = to_le_bytes w16 (length content) ++ content

-- each part holds what it may, in their order
abbrev pub AreContents : List KeyPart → List (List ℕ) → Type 0
AreContents [] [] = Unit {0}
AreContents (part ∷ parts) (content ∷ contents) =
    IsContent part content × AreContents parts contents
AreContents _ _ = ⊥

-- the bytes of the parts, one behind the other
abbrev pub key_bytes : List KeyPart → List (List ℕ) → List ℕ
key_bytes (part ∷ parts) (content ∷ contents) = part_bytes part content ++ key_bytes parts contents
key_bytes _ _ = []

-- where the bytes end, if they are fewer than so many
abbrev pub end_place : ℕ → List ℕ → Option ℕ
end_place len bytes = if nat_lt (length bytes) len then Some (length bytes) else None

-- no text of the form has so many bytes
abbrev pub is_bad_len : PartForm → ℕ → Bool
is_bad_len form len = len == 0 || nat_lt (most_bytes form) len

-- where bytes break a text of so many bytes: at the first bad one of those that are there, else
-- where they end
abbrev pub content_place : PartForm → ℕ → List ℕ → Option ℕ
content_place form len bytes = option_or (bad_place form (take len bytes)) (end_place len bytes)

-- where bytes break a part that holds a text: at the second byte of a bad length, or in the text
abbrev pub text_place : PartForm → List ℕ → Option ℕ
text_place form (low ∷ high ∷ bytes) =
    if is_bad_len form (low + 256 * high) then Some 1
    else option_map (λ n. 2 + n) (content_place form (low + 256 * high) bytes)
text_place form bytes = Some (length bytes)

-- where bytes break a part in front of them
abbrev pub part_place : KeyPart → List ℕ → Option ℕ
part_place (Plain len) bytes = end_place len bytes
part_place (Text form) bytes = text_place form bytes

-- how many bytes a part has that stands in front of others
abbrev pub part_len : KeyPart → List ℕ → ℕ
part_len (Plain len) bytes = len
part_len (Text form) (low ∷ high ∷ bytes) = 2 + (low + 256 * high)
part_len (Text form) bytes = 0

-- where bytes break a key of these parts: at the first break of a part, else at the first byte
-- behind the last one
abbrev pub key_place : List KeyPart → List ℕ → Option ℕ
key_place [] [] = None
key_place [] (b ∷ bytes) = Some 0
key_place (part ∷ parts) bytes =
    option_or (part_place part bytes)
    (option_map (λ n. part_len part bytes + n) (key_place parts (drop (part_len part bytes) bytes)))

-- what breaks behind whole parts: the next one, or, where none comes, any byte
abbrev pub BreaksNext : List KeyPart → List ℕ → ℕ → Type 0
BreaksNext [] bytes place = (bytes ≢ []) × (place ≡ 0)
BreaksNext (part ∷ parts) bytes place = part_place part bytes ≡ Some place

-- Bytes break a key at a place: some first parts stand whole, and behind them it breaks.
pub record BreaksAt (parts : List KeyPart) (bytes : List ℕ) (at : ℕ) : Type 0 where
  pub whole : List KeyPart
  pub left : List KeyPart
  pub split : parts ≡ whole ++ left
  pub contents : List (List ℕ)
  pub are : AreContents whole contents
  pub rest : List ℕ
  pub form : bytes ≡ key_bytes whole contents ++ rest
  pub place : ℕ
  pub next : BreaksNext left rest place
  pub there : at ≡ length (key_bytes whole contents) + place
