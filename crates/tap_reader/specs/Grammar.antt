-- The grammar of a report: its version, and then in order the lines that count, each point with its
-- diagnostic.
use Rattle.std.specs.Prelude.{◌≡◌, ◌≢◌, ℕ, ◌+◌, ◌*◌, true, List, [], ◌∷◌, ◌++◌, length, replicate, codes, Some, None}
use Rattle.std.specs.List.{list_all}
use Rattle.tap_reader.specs.Lines.{lines}
use Rattle.tap_reader.specs.LineForms.{Plan, Point, Bail, Open, Test, said_by}
use Rattle.tap_reader.specs.Counted.{Line}
use Rattle.tap_reader.specs.Reports.{is_blank}

-- the line that begins a diagnostic of a point of the level, and the one that ends it
abbrev pub opening : ℕ → List ℕ
opening level = replicate (4 * level + 2) 32 ++ codes "---"

abbrev pub closing : ℕ → List ℕ
closing level = replicate (4 * level + 2) 32 ++ codes "..."

-- none of these lines ends a diagnostic of the level
abbrev pub NoneCloses : ℕ → List (List ℕ) → Type 0
NoneCloses level [] = Unit {0}
NoneCloses level (l ∷ ls) = (l ≢ closing level) × NoneCloses level ls

-- Of these lines, of which the first is number n, those that count, in order: plans; points, with
-- the lines of the diagnostic right behind them; a bail-out, which ends the report; and behind a
-- point a diagnostic that doesn't end, which takes in all lines behind it. What a line says by
-- itself is its own grammar's.
pub data Counts : ℕ → List (List ℕ) → List Line → Type 0 where
  at_end : (n : ℕ) → Counts n [] []
  nothing : (n : ℕ) (l : List ℕ) (ls : List (List ℕ)) (out : List Line) → said_by l ≡ None
      → Counts (n + 1) ls out → Counts n (l ∷ ls) out
  plan : (n : ℕ) (l : List ℕ) (ls : List (List ℕ)) (out : List Line) (level count : ℕ)
      → said_by l ≡ Some (level, Plan count) → Counts (n + 1) ls out
      → Counts n (l ∷ ls) (record { number = n; level = level; said = Plan count } ∷ out)
  bare_point : (n : ℕ) (l : List ℕ) (ls : List (List ℕ)) (out : List Line) (level : ℕ) (t : Test)
      → said_by l ≡ Some (level, Point t) → ((rest : List (List ℕ)) → ls ≢ opening level ∷ rest)
      → Counts (n + 1) ls out
      → Counts n (l ∷ ls) (record { number = n; level = level; said = Point t } ∷ out)
  point : (n : ℕ) (l : List ℕ) (body ls : List (List ℕ)) (out : List Line) (level : ℕ) (t : Test)
      → said_by l ≡ Some (level, Point t) → NoneCloses level body
      → Counts (n + length body + 3) ls out
      → Counts n (l ∷ opening level ∷ (body ++ closing level ∷ ls))
      (record { number = n; level = level; said = Point (record t { diagnostic = body }) } ∷ out)
  open_point : (n : ℕ) (l : List ℕ) (ls : List (List ℕ)) (level : ℕ) (t : Test)
      → said_by l ≡ Some (level, Point t) → NoneCloses level ls
      → Counts n (l ∷ opening level ∷ ls)
      (record { number = n; level = level; said = Point t }
      ∷ record { number = n + 1; level = level; said = Open } ∷ [])
  bail_out : (n : ℕ) (l : List ℕ) (ls : List (List ℕ)) (level : ℕ)
      → said_by l ≡ Some (level, Bail)
      → Counts n (l ∷ ls) (record { number = n; level = level; said = Bail } ∷ [])

-- the line that says the version, behind which spaces may stand
pub data IsVersion (line : List ℕ) : Type 0 where
  fourteen : (n : ℕ) → line ≡ codes "TAP version 14" ++ replicate n 32 → IsVersion line
  thirteen : (n : ℕ) → line ≡ codes "TAP version 13" ++ replicate n 32 → IsVersion line

-- a report, and its lines that count: blank lines, the version, and the others
pub record IsReport (bytes : List ℕ) (out : List Line) : Type 0 where
  pub blank : List (List ℕ)
  pub version : List ℕ
  pub behind : List (List ℕ)
  pub spelled : lines bytes ≡ blank ++ version ∷ behind
  pub are_blank : list_all is_blank blank ≡ true
  pub is_version : IsVersion version
  pub counts : Counts (length blank + 2) behind out
