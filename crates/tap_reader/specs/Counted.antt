-- The lines of a report that count, with the diagnostics that belong to its points.
use Rattle.std.specs.Prelude.{ℕ, zero, suc, ◌+◌, if◌then◌else◌, List, [], ◌∷◌, ◌++◌, length, codes, Option, Some, None, option_map}
use Rattle.tap_reader.specs.LineForms.{Said, Plan, Point, Bail, Open, Missing, Test, said_by, is_mark}

-- a line that counts: its number in the report, its level, and what it says
pub record Line : Type 0 where
  pub number : ℕ
  pub level : ℕ
  pub said : Said

-- the lines before the one that ends a diagnostic, if one does
abbrev pub until_end : ℕ → List (List ℕ) → Option (List (List ℕ))
until_end level [] = None
until_end level (l ∷ ls) =
    if is_mark (codes "...") level l then Some []
    else option_map (λ body. l ∷ body) (until_end level ls)

-- what of a diagnostic stands behind a point: nothing, a whole one with these lines, or one that
-- doesn't end
pub data Found : Type 0 where
  Absent : Found
  Whole : List (List ℕ) → Found
  Endless : Found

abbrev pub found_end : Option (List (List ℕ)) → Found
found_end None = Endless
found_end (Some body) = Whole body

-- the diagnostic of a point of the level, behind which these lines stand
abbrev pub found_in : ℕ → List (List ℕ) → Found
found_in level [] = Absent
found_in level (l ∷ ls) = if is_mark (codes "---") level l then found_end (until_end level ls)
    else Absent

-- the point of line n with its diagnostic
abbrev pub with_found : ℕ → ℕ → Test → Found → List Line
with_found n level t Absent = record { number = n; level = level; said = Point t } ∷ []
with_found n level t (Whole body) =
    record { number = n; level = level; said = Point (record t { diagnostic = body }) } ∷ []
with_found n level t Endless =
    record { number = n; level = level; said = Point t }
    ∷ record { number = n + 1; level = level; said = Open } ∷ []

-- how many of the lines behind a point belong to its diagnostic
abbrev pub lines_found : Found → List (List ℕ) → ℕ
lines_found Absent ls = 0
lines_found (Whole body) ls = length body + 2
lines_found Endless ls = length ls

-- what line n gives, behind which these lines stand
abbrev pub given : ℕ → Option (ℕ × Said) → List (List ℕ) → List Line
given n None ls = []
given n (Some (level, Plan count)) ls = record { number = n; level = level; said = Plan count } ∷ []
given n (Some (level, Point t)) ls = with_found n level t (found_in level ls)
given n (Some (level, Bail)) ls = record { number = n; level = level; said = Bail } ∷ []
given n (Some (level, Open)) ls = []
given n (Some (level, Missing k)) ls = []

-- How many of the lines behind it are passed over: those of its diagnostic, and behind a bail-out
-- all.
abbrev pub passed_over : Option (ℕ × Said) → List (List ℕ) → ℕ
passed_over None ls = 0
passed_over (Some (level, Plan count)) ls = 0
passed_over (Some (level, Point t)) ls = lines_found (found_in level ls) ls
passed_over (Some (level, Bail)) ls = length ls
passed_over (Some (level, Open)) ls = 0
passed_over (Some (level, Missing k)) ls = 0

-- the lines that count, of lines of which the first is number n, and so many of them are passed
-- over
abbrev pub counted : ℕ → ℕ → List (List ℕ) → List Line
counted n pass [] = []
counted n zero (l ∷ ls) = given n (said_by l) ls ++ counted (n + 1) (passed_over (said_by l) ls) ls
counted n (suc pass) (l ∷ ls) = counted (n + 1) pass ls
