-- A report as a tree of lines by level, and what is at fault in it.
use Rattle.std.specs.Prelude.{◌≡◌, ◌≢◌, ℕ, suc, ◌+◌, ◌==◌, ◌&&◌, ◌||◌, not, if◌then◌else◌, nat_lt, nat_le, Bool, true, false, List, [], ◌∷◌, ◌++◌, filter, fold, Option, Some, None, unwrap_or, option_to_list, is_some}
use Rattle.std.specs.List.{list_any, range_with_len}
use Rattle.std.specs.Option.{option_or}
use Rattle.tap_reader.specs.declared.faults.TapFault.{TapFault}
use Rattle.tap_reader.specs.declared.faults.TapFault.TheVariants.{NoVersion, TwoPlans, NoPlan, PlanExceeded, OpenDiagnostic, TooDeep, NotText, PlanTooLarge, Memory}
use Rattle.tap_reader.specs.LineForms.{Said, Plan, Point, Bail, Open, Missing, Test}
use Rattle.tap_reader.specs.Counted.{Line}

-- A stream is a plan or a point after the other, each with the stream one level deeper that stands
-- before it, which may have no lines. At its end a deeper stream may stand which no line of this
-- one follows.
pub data Stream : Type 0 where
  Ends : Stream
  Unfinished : Stream → Stream
  Goes : Stream → Line → Stream → Stream

-- the lines of a tree, in order
abbrev pub lines_of : Stream → List Line
lines_of Ends = []
lines_of (Unfinished sub) = lines_of sub
lines_of (Goes sub l rest) = lines_of sub ++ l ∷ lines_of rest

-- each line stands in the tree at its own level, the first of these
abbrev pub IsAt : ℕ → Stream → Type 0
IsAt level Ends = Unit {0}
IsAt level (Unfinished sub) = (sub ≢ Ends) × IsAt (suc level) sub
IsAt level (Goes sub l rest) = IsAt (suc level) sub × (l.level ≡ level) × IsAt level rest

-- plans and points make the tree
abbrev pub makes_stream : Said → Bool
makes_stream (Plan count) = true
makes_stream (Point t) = true
makes_stream Bail = false
makes_stream Open = false
makes_stream (Missing k) = false

-- the lines of a report that stand in its tree: its plans and points, of 16 levels below the top at
-- most
abbrev pub in_tree : Line → Bool
in_tree l = nat_le l.level 16 && makes_stream l.said

-- the tree of a report's lines
pub record IsTree (ls : List Line) (t : Stream) : Type 0 where
  pub lines : lines_of t ≡ filter in_tree ls
  pub levels : IsAt 0 t

-- the number of a point in a stream whose last number is this
abbrev pub number_behind : ℕ → Test → ℕ
number_behind last t = unwrap_or t.number (last + 1)

-- what a line says, with the number that its point has in its stream
abbrev pub numbered_said : ℕ → Said → Said
numbered_said last (Plan count) = Plan count
numbered_said last (Point t) = Point (record t { number = Some (number_behind last t) })
numbered_said last Bail = Bail
numbered_said last Open = Open
numbered_said last (Missing k) = Missing k

abbrev pub numbered : ℕ → Line → Line
numbered last l = record l { said = numbered_said last l.said }

-- the last number of the stream behind a line
abbrev pub last_behind : ℕ → Said → ℕ
last_behind last (Plan count) = last
last_behind last (Point t) = number_behind last t
last_behind last Bail = last
last_behind last Open = last
last_behind last (Missing k) = last

-- the lines of a stream itself, without those of deeper ones, each point with its number
abbrev pub own_from : ℕ → Stream → List Line
own_from last Ends = []
own_from last (Unfinished sub) = []
own_from last (Goes sub l rest) = numbered last l ∷ own_from (last_behind last l.said) rest

-- the plan that a line is
abbrev pub plan_said : Said → Option ℕ
plan_said (Plan count) = Some count
plan_said (Point t) = None
plan_said Bail = None
plan_said Open = None
plan_said (Missing k) = None

-- the first plan of a stream
abbrev pub plan_of : List Line → Option ℕ
plan_of [] = None
plan_of (l ∷ ls) = option_or (plan_said l.said) (plan_of ls)

-- the line's point has this number
abbrev pub says_number : ℕ → Said → Bool
says_number k (Plan count) = false
says_number k (Point t) = unwrap_or t.number 0 == k
says_number k Bail = false
says_number k Open = false
says_number k (Missing n) = false

-- the numbers of a plan that no point has, from 1 up
abbrev pub unnamed : Option ℕ → List Line → List ℕ
unnamed None own = []
unnamed (Some count) own =
    filter (λ k. not (list_any (λ l. says_number k l.said) own)) (range_with_len 1 count)

abbrev pub missing_numbers : List Line → List ℕ
missing_numbers own = unnamed (plan_of own) own

-- the number is 0, or above the plan
abbrev pub exceeds : Option ℕ → ℕ → Bool
exceeds None k = k == 0
exceeds (Some count) k = k == 0 || nat_lt count k

-- the fault of a line in a stream of this plan: that it is a second plan, or that its number is
-- none of the plan's
abbrev pub stream_fault : Option ℕ → Bool → ℕ → Said → Option TapFault
stream_fault plan planned n (Plan count) = if planned then Some (TwoPlans n) else None
stream_fault plan planned n (Point t) =
    if exceeds plan (unwrap_or t.number 0) then Some (PlanExceeded n) else None
stream_fault plan planned n Bail = None
stream_fault plan planned n Open = None
stream_fault plan planned n (Missing k) = None

-- the fault of the first line that has one, of a stream of this plan in which a plan stood before
-- or not
abbrev pub first_in : Option ℕ → Bool → List Line → Option TapFault
first_in plan planned [] = None
first_in plan planned (l ∷ ls) =
    option_or (stream_fault plan planned l.number l.said)
    (first_in plan (planned || is_some (plan_said l.said)) ls)

abbrev pub fault_of : List Line → Option TapFault
fault_of own = first_in (plan_of own) false own

-- the first fault of each of the streams below a stream
abbrev pub faults_below : Stream → List TapFault
faults_below Ends = []
faults_below (Unfinished sub) = faults_below sub ++ option_to_list (fault_of (own_from 0 sub))
faults_below (Goes sub l rest) =
    (faults_below sub ++ option_to_list (fault_of (own_from 0 sub))) ++ faults_below rest

-- the first fault of each stream of a tree
abbrev pub stream_faults : Stream → List TapFault
stream_faults t = faults_below t ++ option_to_list (fault_of (own_from 0 t))

-- The fault of a line by itself, before which the plans have this sum: that it is too deep, that
-- the sum is too large with it, or that a diagnostic begins there which doesn't end.
abbrev pub said_fault : ℕ → ℕ → Said → Option TapFault
said_fault sum n (Plan count) = if nat_lt 1000000 (sum + count) then Some (PlanTooLarge n) else None
said_fault sum n (Point t) = None
said_fault sum n Bail = None
said_fault sum n Open = Some (OpenDiagnostic n)
said_fault sum n (Missing k) = None

abbrev pub line_fault : ℕ → Line → Option TapFault
line_fault sum l = if nat_lt 16 l.level then Some (TooDeep l.number)
    else said_fault sum l.number l.said

-- the fault of the first line that has one by itself
abbrev pub first_alone : ℕ → List Line → Option TapFault
first_alone sum [] = None
first_alone sum (l ∷ ls) =
    option_or (line_fault sum l) (first_alone (sum + unwrap_or (plan_said l.said) 0) ls)

-- the line that a fault names
abbrev pub line_named : TapFault → ℕ
line_named NoVersion = 0
line_named (TwoPlans n) = n
line_named NoPlan = 0
line_named (PlanExceeded n) = n
line_named (OpenDiagnostic n) = n
line_named (TooDeep n) = n
line_named (NotText at) = 0
line_named (PlanTooLarge n) = n
line_named Memory = 0

-- the one of an earlier line, and the first of those of one line
abbrev pub earlier : Option TapFault → TapFault → Option TapFault
earlier None f = Some f
earlier (Some e) f = if nat_lt (line_named f) (line_named e) then Some f else Some e

-- the first fault of a report's lines, by line
abbrev pub first_fault : List Line → Stream → Option TapFault
first_fault ls t = fold earlier None (stream_faults t ++ option_to_list (first_alone 0 ls))

-- the run was given up
abbrev pub is_bail : Said → Bool
is_bail (Plan count) = false
is_bail (Point t) = false
is_bail Bail = true
is_bail Open = false
is_bail (Missing k) = false

-- the top stream has neither a plan nor was the run given up
abbrev pub plan_fault : List Line → Stream → Option TapFault
plan_fault ls t =
    if is_some (plan_of (own_from 0 t)) || list_any (λ l. is_bail l.said) ls then None
    else Some NoPlan

-- the fault of a report: its first by line, and last that it has no plan
abbrev pub report_fault : List Line → Stream → Option TapFault
report_fault ls t = option_or (first_fault ls t) (plan_fault ls t)
