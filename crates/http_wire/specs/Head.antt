-- The lines of a head (RFC 9112, section 2.2): lines end with LF, a CR before it belongs to the
-- line's end, and the head ends with the first empty line behind its first line. Empty lines before
-- the first one are passed over.
use Rattle.std.specs.Prelude.{◌≡◌, ◌≢◌, ℕ, ◌⊎◌, List, [], ◌∷◌, ◌++◌, length}
use Rattle.std.specs.List.{flat_map, AllByRecursion}

-- a line: its text, and LF
abbrev pub line_bytes : List ℕ → List ℕ
line_bytes text = text ++ 10 ∷ []

-- lines one after the other
abbrev pub lines_bytes : List (List ℕ) → List ℕ
lines_bytes texts = flat_map line_bytes texts

-- the text of an empty line: nothing, or CR alone
abbrev pub IsEmptyText : List ℕ → Type 0
IsEmptyText text = (text ≡ []) ⊎ (text ≡ 13 ∷ [])

-- the text of a line that isn't empty
pub record IsFilledText (text : List ℕ) : Type 0 where
  pub one_line : AllByRecursion (λ b. b ≢ 10) text
  pub filled : ¬ (IsEmptyText text)

-- empty lines, a first line, so many header lines, and the empty line that ends the head
pub record IsHeadText (bytes : List ℕ) (count : ℕ) : Type 0 where
  pub before : List (List ℕ)
  pub first : List ℕ
  pub headers : List (List ℕ)
  pub last : List ℕ
  pub lines : bytes
      ≡ lines_bytes before ++ (line_bytes first ++ (lines_bytes headers ++ line_bytes last))
  pub before_empty : AllByRecursion IsEmptyText before
  pub first_filled : IsFilledText first
  pub headers_filled : AllByRecursion IsFilledText headers
  pub last_empty : IsEmptyText last
  pub counted : count ≡ length headers

-- the most bytes that a head has
abbrev pub head_limit : ℕ
head_limit = 16384
