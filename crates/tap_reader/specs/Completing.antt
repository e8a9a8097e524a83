-- The code's own words for how it completes the streams of a report: line by line, with what it has
-- written so far.
use Rattle.std.specs.Prelude.{ℕ, zero, suc, ◌+◌, ◌-◌, ◌==◌, if◌then◌else◌, nat_lt, Bool, List, [], ◌∷◌, ◌++◌, map, filter, fold, Option, unwrap_or, option_to_list}
use Rattle.tap_reader.specs.declared.faults.TapFault.{TapFault}
use Rattle.tap_reader.specs.LineForms.{Said, Plan, Point, Bail, Open, Missing}
use Rattle.tap_reader.specs.Counted.{Line}
use Rattle.tap_reader.specs.Streams.{earlier, fault_of, missing_numbers, numbered}

-- what was written, and the first fault so far
pub record State : Type 0 where
  pub lines : List Line
  pub fault : Option TapFault

-- the lines at a level
abbrev pub at_level : ℕ → List Line → List Line
at_level level ls = filter (λ l. l.level == level) ls

-- the lines at the level since the last one of a lower level, after a line more
abbrev pub own_step : ℕ → List Line → Line → List Line
own_step level own l = if nat_lt l.level level then [] else (if l.level == level then own ++ l ∷ []
    else own)

-- the lines at the level since the last one of a lower level
abbrev pub own : ℕ → List Line → List Line
own level ls = fold (own_step level) [] ls

abbrev pub number_after : ℕ → Said → ℕ
number_after n (Plan count) = n
number_after n (Point t) = unwrap_or t.number 0
number_after n Bail = n
number_after n Open = n
number_after n (Missing k) = n

abbrev pub last_step : ℕ → ℕ → Line → ℕ
last_step level n l = if nat_lt l.level level then 0
    else (if l.level == level then number_after n l.said else n)

-- the number of the last point at the level since the last line of a lower level
abbrev pub last_number : ℕ → List Line → ℕ
last_number level ls = fold (last_step level) 0 ls

-- the level of the last line
abbrev pub top_level : List Line → ℕ
top_level ls = fold (λ _ (l : Line). l.level) 0 ls

abbrev pub missing_line : ℕ → ℕ → Line
missing_line level k = record { number = 0; level = level; said = Missing k }

abbrev pub missing_lines : ℕ → List Line → List Line
missing_lines level own = map (missing_line level) (missing_numbers own)

abbrev pub filled : Bool → ℕ → List Line → List Line
filled fill level own = if fill then missing_lines level own else []

-- a stream of the level is closed: its fault is told, and its missing numbers are written where
-- they are wanted
unfoldable pub closed : Bool → ℕ → State → State
closed fill level s = record {
  lines = s.lines ++ filled fill level (own level s.lines);
  fault = fold earlier s.fault (option_to_list (fault_of (own level s.lines)));
}

-- the streams of so many levels above one are closed, the deepest first
abbrev pub shut : Bool → ℕ → ℕ → State → State
shut fill level zero s = s
shut fill level (suc n) s = shut fill level n (closed fill (level + suc n) s)

-- the streams deeper than the level are closed
abbrev pub closed_above : Bool → ℕ → State → State
closed_above fill level s = shut fill level (top_level s.lines - level) s

-- a line is written behind the streams that it closes
abbrev pub put_behind : Line → State → State
put_behind l s = record s { lines = s.lines ++ numbered (last_number l.level s.lines) l ∷ [] }

abbrev pub with_line : Bool → State → Line → State
with_line fill s l = put_behind l (closed_above fill l.level s)

-- all streams are closed, the top one last
abbrev pub completed : Bool → State → State
completed fill s = closed fill 0 (closed_above fill 0 s)
