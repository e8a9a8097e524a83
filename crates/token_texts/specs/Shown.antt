-- Texts and tags as replies show them.
use Rattle.std.specs.Prelude.{if◌then◌else◌, ℕ, List, [], ◌∷◌, Option, Some, None}
use Rattle.std.specs.Str.{is_utf8}
use Rattle.serde_json.specs.Data.{Data, string}
use Rattle.pair_kinds.specs.NamesRealms.declared.pairs.Pair.{Pair}
use Rattle.pair_kinds.specs.Tags.{tag_data}

-- A text: its bytes, and none where they aren't UTF-8.
abbrev pub as_text : List ℕ → List ℕ
as_text bytes = if is_utf8 bytes then bytes else []

-- A text; none where it is empty.
abbrev pub filled : List ℕ → Option Data
filled [] = None
filled (b ∷ bs) = Some (string (b ∷ bs))

-- a tag
abbrev pub pair_data : Pair → Data
pair_data pair = tag_data (record { key = as_text pair.key; value = as_text pair.value })
