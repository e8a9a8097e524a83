-- The constructs that a report is made of, each read from the front of bytes.
use Rattle.std.specs.Prelude.{ℕ, ◌==◌, ◌||◌, nat_eq, if◌then◌else◌, List, [], ◌∷◌, take, drop, Option, Some, None, codes}
use Rattle.std.specs.List.{position_or_len, starts_with}
use Rattle.junit_parts.specs.Bytes.{◌>>=◌, behind_white, byte_from, name_from, parted_at}
use Rattle.junit_parts.specs.References.{reference_from}
use Rattle.junit_parts.specs.Tags.{TagText, tag_from, tag_text}
use Rattle.junit_parts.specs.declared.constructs.Construct.{Construct}
use Rattle.junit_parts.specs.declared.constructs.Construct.TheVariants as code
use Rattle.junit_parts.specs.declared.references.Meaning.{Meaning}
use Rattle.junit_parts.specs.declared.references.Meaning.TheVariants.{Character, Foreign}

-- what has nothing in it: text, a character by a reference, the bytes of a CDATA section, a comment
pub data Leaf : Type 0 where
  Text : List ℕ → Leaf
  Reference : ℕ → Leaf
  Data : List ℕ → Leaf
  Comment : Leaf

-- A construct: a leaf, a start tag, the tag of an element without content, an end tag, or what
-- isn't supported.
pub data Token : Type 0 where
  Stands : Leaf → Token
  Opens : TagText → Token
  Whole : TagText → Token
  Closes : List ℕ → Token
  Entity : Token
  Doctype : Token
  Instruction : Token

-- the same without where it lies in memory
abbrev pub token_of : Construct → Token
token_of (code.Text text) = Stands (Text text.now)
token_of (code.Reference c) = Stands (Reference c)
token_of (code.Data text) = Stands (Data text.now)
token_of code.Comment = Stands Comment
token_of (code.Opens tag) = Opens (tag_text tag)
token_of (code.Whole tag) = Whole (tag_text tag)
token_of (code.Closes name) = Closes name.now
token_of code.Entity = Entity
token_of code.Doctype = Doctype
token_of code.Instruction = Instruction

abbrev pub meant : Meaning → Token
meant (Character c) = Stands (Reference c)
meant Foreign = Entity

-- `>` behind a start tag, `/>` behind the tag of an element without content (3.1)
abbrev pub ended : TagText → List ℕ → Option (Token × List ℕ)
ended tag [] = None
ended tag (b ∷ bs) =
    if b == 62 then Some (Opens tag, bs)
    else (if b == 47 then (byte_from 62 bs >>= λ rest. Some (Whole tag, rest)) else None)

unfoldable pub start_from : List ℕ → Option (Token × List ℕ)
start_from bytes = do
  tag ← tag_from bytes
  ended tag.0 (behind_white tag.1)

-- behind `</`: a name, and `>` (3.1 ETag)
unfoldable pub end_from : List ℕ → Option (Token × List ℕ)
end_from bytes = do
  name ← name_from bytes
  rest ← byte_from 62 (behind_white name.1)
  Some (Closes name.0, rest)

-- behind `<!--`: no `--` up to `-->` (2.5 Comment)
unfoldable pub comment_from : List ℕ → Option (Token × List ℕ)
comment_from bytes = do
  parts ← parted_at (codes "--") bytes
  rest ← byte_from 62 parts.1
  Some (Stands Comment, rest)

-- behind `<![CDATA[`: all up to `]]>` (2.7 CDSect)
unfoldable pub data_from : List ℕ → Option (Token × List ℕ)
data_from bytes = do
  parts ← parted_at (codes "]]>") bytes
  Some (Stands (Data parts.0), parts.1)

-- behind `<!DOCTYPE`: a `>` at least (2.8 doctypedecl)
unfoldable pub doctype_from : List ℕ → Option (Token × List ℕ)
doctype_from bytes = do
  parts ← parted_at (codes ">") bytes
  Some (Doctype, parts.1)

-- behind `<?`: all up to `?>` (2.6 PI)
unfoldable pub instruction_from : List ℕ → Option (Token × List ℕ)
instruction_from bytes = do
  parts ← parted_at (codes "?>") bytes
  Some (Instruction, parts.1)

-- a CDATA section or a document type behind `<!`
abbrev pub marked_from : List ℕ → Option (Token × List ℕ)
marked_from bytes =
    if starts_with nat_eq bytes (codes "[CDATA[") then data_from (drop 7 bytes)
    else (if starts_with nat_eq bytes (codes "DOCTYPE") then doctype_from (drop 7 bytes)
    else None)

-- behind `<!`
unfoldable pub declared_from : List ℕ → Option (Token × List ℕ)
declared_from bytes =
    if starts_with nat_eq bytes (codes "--") then comment_from (drop 2 bytes)
    else marked_from bytes

-- behind `<`
unfoldable pub markup_from : List ℕ → Option (Token × List ℕ)
markup_from [] = None
markup_from (b ∷ bs) =
    if b == 47 then end_from bs
    else (if b == 33 then declared_from bs
    else (if b == 63 then instruction_from bs
    else start_from (b ∷ bs)))

-- behind `&`
unfoldable pub character_from : List ℕ → Option (Token × List ℕ)
character_from bytes = do
  found ← reference_from bytes
  Some (meant found.0, found.1)

-- The construct in front of bytes, and what stands behind it. Text goes up to the next `<` or `&`
-- (2.4 CharData).
unfoldable pub token_from : List ℕ → Option (Token × List ℕ)
token_from [] = None
token_from (b ∷ bs) =
    if b == 60 then markup_from bs
    else (if b == 38 then character_from bs
    else Some (
      Stands (Text (take (position_or_len (λ c. c == 60 || c == 38) (b ∷ bs)) (b ∷ bs))),
      drop (position_or_len (λ c. c == 60 || c == 38) (b ∷ bs)) (b ∷ bs),
    ))
