-- Tags and their attributes (XML 1.0, 3.1).
use Rattle.std.specs.Prelude.{ℕ, zero, suc, ◌-◌, ◌==◌, ◌&&◌, ◌||◌, not, nat_lt, if◌then◌else◌, Bool, true, List, [], ◌∷◌, length, map, take, drop, Option, Some, None}
use Rattle.std.specs.List.{list_any, position_or_len}
use Rattle.std.specs.Str.{bytes_eq}
use Rattle.junit_parts.specs.Bytes.{◌>>=◌, begins_name, behind_white, byte_from, is_white, name_from, run_len}
use Rattle.junit_parts.specs.declared.tags.Attribute.{Attribute}
use Rattle.junit_parts.specs.declared.tags.Tag.{Tag}

-- a name and a value as it is written; `left` counts the bytes of the report from the value's first
-- on
pub record AttributeText : Type 0 where
  pub name : List ℕ
  pub value : List ℕ
  pub left : ℕ

pub record TagText : Type 0 where
  pub name : List ℕ
  pub attributes : List AttributeText

-- the same without where it lies in memory
abbrev pub attribute_text : Attribute → AttributeText
attribute_text a = record { name = a.name.now; value = a.value.now; left = a.left }

abbrev pub tag_text : Tag → TagText
tag_text t = record { name = t.name.now; attributes = map attribute_text t.attributes.items }

-- what stands before the quote, in which there is no `<` (2.3 AttValue)
abbrev pub closed_by : ℕ → ℕ → List ℕ → Option (List ℕ × List ℕ)
closed_by quote n bytes = do
  rest ← byte_from quote (drop n bytes)
  Some (take n bytes, rest)

abbrev pub is_quote : ℕ → Bool
is_quote b = b == 34 || b == 39

-- a value in quotes, and what stands behind it
unfoldable pub quoted_from : List ℕ → Option (List ℕ × List ℕ)
quoted_from [] = None
quoted_from (q ∷ bs) =
    if is_quote q then closed_by q (position_or_len (λ b. b == q || b == 60) bs) bs else None

-- a name, `=` and a value (3.1 Attribute)
unfoldable pub attribute_from : List ℕ → Option (AttributeText × List ℕ)
attribute_from bytes = do
  name ← name_from bytes
  behind ← byte_from 61 (behind_white name.1)
  value ← quoted_from (behind_white behind)
  Some (record { name = name.0; value = value.0; left = length (behind_white behind) - 1 }, value.1)

-- an attribute is to come where a name stands behind white space
abbrev pub has_attribute : List ℕ → Bool
has_attribute bytes = nat_lt 0 (run_len is_white bytes) && begins_name (behind_white bytes)

-- attributes, at most so many
unfoldable pub attributes_from : ℕ → List ℕ → Option (List AttributeText × List ℕ)
attributes_from zero bytes = Some ([], bytes)
attributes_from (suc n) bytes =
    if has_attribute bytes
    then (attribute_from (behind_white bytes)
    >>= λ first. attributes_from n first.1 >>= λ others. Some (first.0 ∷ others.0, others.1))
    else Some ([], bytes)

-- no name stands twice (3.1, Unique Att Spec)
abbrev pub are_distinct : List (List ℕ) → Bool
are_distinct [] = true
are_distinct (name ∷ names) =
    not (list_any (λ other. bytes_eq other name) names) && are_distinct names

-- a name and attributes, each name of them once (3.1 STag, EmptyElemTag)
unfoldable pub tag_from : List ℕ → Option (TagText × List ℕ)
tag_from bytes = do
  name ← name_from bytes
  attributes ← attributes_from (length name.1) name.1
  if are_distinct (map (λ a. a.name) attributes.0)
      then Some (record { name = name.0; attributes = attributes.0 }, attributes.1)
      else None
