-- The code's own words, which private contracts alone cite: the search for a head's end, byte by
-- byte. That it finds the ends of heads is proved in proofs/.
use Rattle.std.specs.Prelude.{◌≡◌, ℕ, ◌+◌, ◌≤◌, ◌==◌, if◌then◌else◌, List, [], ◌∷◌, ◌++◌, length}
use Rattle.std.specs.Prelude.{Option, Some, None}
use Rattle.http_wire.specs.declared.head_scan.Place.{Place}
use Rattle.http_wire.specs.declared.head_scan.Place.TheVariants.{Before, BeforeCr, FirstLine}
use Rattle.http_wire.specs.declared.head_scan.Place.TheVariants.{LineStart, LineCr, HeaderLine}
use Rattle.http_wire.specs.declared.head_scan.Step.{Step}
use Rattle.http_wire.specs.declared.head_scan.Step.TheVariants.{To, EndsLine, EndsHead}
use Rattle.http_wire.specs.declared.head_scan.Progress.{Progress}
use Rattle.http_wire.specs.declared.head_scan.Search.{Search}
use Rattle.http_wire.specs.declared.head_scan.Search.TheVariants.{Found, Goes}

-- what a byte does at a place of the head
abbrev pub step_of : Place → ℕ → Step
step_of Before b = if b == 10 then To Before else if b == 13 then To BeforeCr else To FirstLine
step_of BeforeCr b = if b == 10 then To Before else To FirstLine
step_of FirstLine b = if b == 10 then To LineStart else To FirstLine
step_of LineStart b = if b == 10 then EndsHead else if b == 13 then To LineCr else To HeaderLine
step_of LineCr b = if b == 10 then EndsHead else To HeaderLine
step_of HeaderLine b = if b == 10 then EndsLine else To HeaderLine

abbrev pub after_step : Step → ℕ → ℕ → (Place → ℕ → ℕ → Option (ℕ × ℕ)) → Option (ℕ × ℕ)
after_step (To q) n k go = go q (n + 1) k
after_step EndsLine n k go = go LineStart (n + 1) (k + 1)
after_step EndsHead n k go = Some (n + 1, k)

-- the head's end and the number of its header lines, where n bytes and k header lines are passed
unfoldable pub scan : Place → ℕ → ℕ → List ℕ → Option (ℕ × ℕ)
scan p n k [] = None
scan p n k (b ∷ bs) = after_step (step_of p b) n k (λ q m j. scan q m j bs)

-- the head at the front of the bytes: its length and the number of its header lines
abbrev pub head_end : List ℕ → Option (ℕ × ℕ)
head_end bytes = scan Before 0 0 bytes

-- A search has passed these bytes, and goes on from there whatever follows them.
pub record Passed (bytes : List ℕ) (p : Progress) : Type 0 where
  pub scanned : p.scanned ≡ length bytes
  pub few : p.lines ≤ p.scanned
  pub goes : (rest : List ℕ) → head_end (bytes ++ rest) ≡ scan p.place p.scanned p.lines rest

-- what a search over all of the bytes says
abbrev pub IsSearch : List ℕ → Search → Type 0
IsSearch bytes (Found end) = head_end bytes ≡ Some (end.len, end.lines)
IsSearch bytes (Goes p) = Passed bytes p
