-- A report as a tree, and the bytes that are a print of it.
use Rattle.std.specs.Prelude.{◌≡◌, ℕ, suc, Bool, true, false, List, length, Option, Some, None}
use Rattle.junit_parts.specs.Constructs.{Leaf, Token, Stands, Opens, Whole, Closes, Entity, Doctype, Instruction, token_from}
use Rattle.junit_parts.specs.Tags.{TagText}

-- Content, from its end: nothing; content and a leaf behind it; content and an element behind it,
-- with its tag, its own content, and its end tag where it has one. Each construct has its place, as
-- the number of bytes from its first on.
pub data Content : Type 0 where
  Nothing : Content
  Then : Content → ℕ → Leaf → Content
  Element : Content → ℕ → TagText → Content → Option (ℕ × List ℕ) → Content

-- An unfinished tree: content outside every element; or content behind the start tag of an element
-- that isn't ended, behind an unfinished tree.
pub data Unfinished : Type 0 where
  Outside : Content → Unfinished
  Within : Unfinished → ℕ → TagText → Content → Unfinished

-- The bytes up to this rest are one construct.
pub record IsAt (bytes : List ℕ) (left : ℕ) (token : Token) (rest : List ℕ) : Type 0 where
  pub place : left ≡ length bytes
  pub read : token_from bytes ≡ Some (token, rest)

-- The bytes up to this rest are a print of content (XML 1.0, 3.1 content, element): its constructs,
-- one behind the other.
abbrev pub Prints : List ℕ → Content → List ℕ → Type 0
Prints bytes Nothing rest = bytes ≡ rest
Prints bytes (Then before left leaf) rest =
    (middle : List ℕ) × Prints bytes before middle × IsAt middle left (Stands leaf) rest
Prints bytes (Element before left tag own None) rest =
    (middle : List ℕ) × Prints bytes before middle
    × (own ≡ Nothing) × IsAt middle left (Whole tag) rest
Prints bytes (Element before left tag own (Some end)) rest =
    (middle : List ℕ) × (behind : List ℕ) × (last : List ℕ)
    × Prints bytes before middle × IsAt middle left (Opens tag) behind
    × Prints behind own last × IsAt last end.0 (Closes end.1) rest

-- the same of an unfinished tree
abbrev pub PrintsFront : List ℕ → Unfinished → List ℕ → Type 0
PrintsFront bytes (Outside content) rest = Prints bytes content rest
PrintsFront bytes (Within outer left tag content) rest =
    (middle : List ℕ) × (behind : List ℕ) × PrintsFront bytes outer middle
    × IsAt middle left (Opens tag) behind × Prints behind content rest

-- an element stands in the content
abbrev pub has_element : Content → Bool
has_element Nothing = false
has_element (Then before left leaf) = has_element before
has_element (Element before left tag own end) = true

-- a root stands before the place, or around it
abbrev pub has_root : Unfinished → Bool
has_root (Outside content) = has_element content
has_root (Within outer left tag content) = true

-- how many elements are open
abbrev pub depth_of : Unfinished → ℕ
depth_of (Outside content) = 0
depth_of (Within outer left tag content) = suc (depth_of outer)

-- the content directly in the innermost open element, and the tree with other content there
abbrev pub content_of : Unfinished → Content
content_of (Outside content) = content
content_of (Within outer left tag content) = content

abbrev pub put : Unfinished → Content → Unfinished
put (Outside content) other = Outside other
put (Within outer left tag content) other = Within outer left tag other

abbrev pub closed : Unfinished → ℕ → TagText → Content → Option (ℕ × List ℕ) → Unfinished
closed outer left tag content end = put outer (Element (content_of outer) left tag content end)

-- one construct more
abbrev pub grown : Unfinished → ℕ → Token → Unfinished
grown u left (Stands leaf) = put u (Then (content_of u) left leaf)
grown u left (Opens tag) = Within u left tag Nothing
grown u left (Whole tag) = closed u left tag Nothing None
grown (Within outer start tag content) left (Closes name) =
    closed outer start tag content (Some (left, name))
grown (Outside content) left (Closes name) = Outside content
grown u left Entity = u
grown u left Doctype = u
grown u left Instruction = u
