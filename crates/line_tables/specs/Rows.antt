-- The lines of a text, and the text that is printed of them.
use Rattle.std.specs.Prelude.{◌≡◌, ◌≢◌, ℕ, ◌⊎◌, List, [], ◌∷◌, ◌++◌, Bool, true, ◌==◌, All}
use Rattle.std.specs.List.{flat_map}
use Rattle.std.specs.Bool.{MatchBool}

-- A remark is only printed: it is empty or begins with '#'.
abbrev pub is_remark : List ℕ → Bool
is_remark [] = true
is_remark (b ∷ bs) = b == 35

-- What stands behind a line: nothing behind a remark, and what it comes to behind any other.
abbrev pub IsBehind : (List ℕ → List ℕ → Type 0) → List ℕ → List ℕ → Type 0
IsBehind tells line told = MatchBool (is_remark line) (told ≡ []) (tells line told)

-- A line, its end, and what stands behind it.
abbrev pub IsRow : (List ℕ → List ℕ → Type 0) → List ℕ → List ℕ → Type 0
IsRow tells line row = (told : List ℕ) × (row ≡ line ++ 10 ∷ told) × IsBehind tells line told

-- A line of a text, without its end, and what is printed of it.
pub record Row : Type 0 where
  pub line : List ℕ
  pub printed : List ℕ

-- The lines of a text, each with its end.
abbrev pub lines_of : List Row → List ℕ
lines_of rows = flat_map (λ (row : Row). row.line ++ 10 ∷ []) rows

-- What is printed of them.
abbrev pub printed_of : List Row → List ℕ
printed_of rows = flat_map (λ (row : Row). row.printed) rows

-- A line has no end in it, and is printed with what it comes to.
abbrev pub IsPrinted : (List ℕ → List ℕ → Type 0) → Row → Type 0
IsPrinted tells row = All (λ b. b ≢ 10) row.line × IsRow tells row.line row.printed

-- Rows of a text: they are its lines, of which the last one has its end or isn't empty.
abbrev pub AreLines : List ℕ → List Row → Type 0
AreLines text rows = (text ≡ lines_of rows)
    ⊎ ((front : List Row) × (last : Row) × (rows ≡ front ++ last ∷ []) × (last.line ≢ [])
    × (text ≡ lines_of front ++ last.line))

-- What is printed of a text: each of its lines, and behind it what it comes to.
pub record PrintsRows (tells : List ℕ → List ℕ → Type 0) (text printed : List ℕ) : Type 0 where
  pub rows : List Row
  pub lines : AreLines text rows
  pub told : All (IsPrinted tells) rows
  pub whole : printed ≡ printed_of rows
