-- The code's own words for how large the numbers of points get.
use Rattle.std.specs.Prelude.{ℕ, ◌<◌, List, [], ◌∷◌, IfSome}
use Rattle.tap_reader.specs.LineForms.{Said, Plan, Point, Bail, Open, Missing}
use Rattle.tap_reader.specs.Counted.{Line}

-- the number of the line's point, if it has one, is below a bound
abbrev pub IsBelow : ℕ → Said → Type 0
IsBelow bound (Plan count) = Unit {0}
IsBelow bound (Point t) = IfSome t.number (λ n. n < bound)
IsBelow bound Bail = Unit {0}
IsBelow bound Open = Unit {0}
IsBelow bound (Missing k) = Unit {0}

-- the numbers of all points are
abbrev pub AllBelow : ℕ → List Line → Type 0
AllBelow bound [] = Unit {0}
AllBelow bound (l ∷ ls) = IsBelow bound l.said × AllBelow bound ls
