-- Where a text breaks a grammar.
use Rattle.std.specs.Prelude.{ℕ, ◌+◌, ◌<◌, ◌≤◌, List, ◌++◌, length, take}

-- Some text of the grammar begins with these bytes.
pub record GoesOn (Is : List ℕ → Type 0) (front : List ℕ) : Type 0 where
  pub rest : List ℕ
  pub whole : Is (front ++ rest)

-- The first place that breaks the grammar. Some text of the grammar begins as this one does up to
-- there. None begins so with the byte at that place too; where that is the length, the text ends
-- too soon, and isn't of the grammar itself.
pub record IsFirstBadPlace (Is : List ℕ → Type 0) (text : List ℕ) (place : ℕ) : Type 0 where
  pub within : place ≤ length text
  pub before : GoesOn Is (take place text)
  pub here : place < length text → ¬ GoesOn Is (take (place + 1) text)
  pub itself : ¬ Is text
