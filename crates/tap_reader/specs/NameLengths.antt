-- The code's own words for names that are made run by run, and for their lengths, counted from the
-- last line to the first.
use Rattle.std.specs.Prelude.{◌≡◌, ℕ, ◌+◌, ◌-◌, ◌==◌, ◌<◌, List, ◌++◌, length, map, take, drop, replicate, Option, MatchOption}
use Rattle.std.specs.List.{position_or_len}
use Rattle.tap_reader.specs.LineForms.{Said, Plan, Point, Bail, Open, Missing}
use Rattle.tap_reader.specs.Cases.{number_name, point_name}

-- the text from its first backslash on
unfoldable pub after_run : List ℕ → List ℕ
after_run text = drop (position_or_len (λ b. b == 92) text) text

-- what is left of so many bytes behind a name of this length, if it is enough
abbrev pub Leaves : Option ℕ → ℕ → ℕ → Type 0
Leaves rest left n = MatchOption rest (left < n) (λ k. k + n ≡ left)

-- how long the name of a line's case is, if it has one, behind parents of this length
abbrev pub name_len : ℕ → Said → ℕ
name_len before (Plan count) = 0
name_len before (Point t) = before + length (point_name t)
name_len before Bail = 0
name_len before Open = 0
name_len before (Missing k) = before + length (number_name k)

-- the lengths of parents' names, each with what parts it from the next
abbrev pub with_partings : List (List ℕ) → List ℕ
with_partings path = map (λ name. length name + 3) path

-- so many lengths: the first of these, and that of `unfinished` for those that aren't there
abbrev pub fitted : ℕ → List ℕ → List ℕ
fitted n lens = take n lens ++ replicate (n - length lens) 13
