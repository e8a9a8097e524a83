-- The cases of a report: its points and the missing ones, each under the names of its parents.
use Rattle.std.specs.Prelude.{ℕ, ◌+◌, ◌*◌, ◌==◌, ◌&&◌, ◌||◌, if◌then◌else◌, nat_lt, Bool, true, false, List, [], ◌∷◌, ◌++◌, length, take, drop, map, codes, Option, Some, None, unwrap_or, is_some}
use Rattle.std.specs.List.{flat_map, join_with_byte, sum_by}
use Rattle.std.specs.Fmt.{decimal}
use Rattle.std.specs.Str.Lossy.{utf8_valid_len}
use Rattle.names_realms.specs.declared.states.Case.{Case}
use Rattle.names_realms.specs.declared.states.Status.{Status}
use Rattle.names_realms.specs.declared.states.Status.TheVariants.{Pass, Fail, Skip}
use Rattle.tap_reader.specs.declared.entries.Directive.{Directive}
use Rattle.tap_reader.specs.declared.entries.Directive.TheVariants as directive
use Rattle.tap_reader.specs.LineForms.{Said, Plan, Point, Bail, Open, Missing, Test, spaces}
use Rattle.tap_reader.specs.Counted.{Line}
use Rattle.tap_reader.specs.Streams.{Stream, Ends, Unfinished, Goes, last_behind, missing_numbers, numbered_said, own_from}

-- a description as it is meant: `\#` stands for `#`, and `\\` for `\`
abbrev pub unescaped : List ℕ → List ℕ
unescaped [] = []
unescaped (b ∷ []) = b ∷ []
unescaped (b ∷ c ∷ rest) =
    if b == 92 && (c == 35 || c == 92) then c ∷ unescaped rest else b ∷ unescaped (c ∷ rest)

-- the name of a point by its number
abbrev pub number_name : ℕ → List ℕ
number_name n = codes "point " ++ decimal n

-- the name of a point: its description, or else its number
unfoldable pub point_name : Test → List ℕ
point_name t =
    if length t.description == 0 then number_name (unwrap_or t.number 0)
    else unescaped t.description

-- the name that a line gives to the lines one level deeper that stand before it
abbrev pub name_for_subtest : Said → List ℕ
name_for_subtest (Plan count) = codes "unfinished"
name_for_subtest (Point t) = point_name t
name_for_subtest Bail = codes "unfinished"
name_for_subtest Open = codes "unfinished"
name_for_subtest (Missing k) = codes "unfinished"

-- a name behind those of its parents
unfoldable pub name_in : List (List ℕ) → List ℕ → List ℕ
name_in path name = flat_map (λ parent. parent ++ codes " > ") path ++ name

-- a line of a diagnostic without so many spaces at its front, where it has them
abbrev pub unindented : ℕ → List ℕ → List ℕ
unindented n line = if nat_lt (spaces line) n then line else drop n line

-- the longest front of at most 1,024 bytes that ends between two characters
unfoldable pub cut : List ℕ → List ℕ
cut text = take (utf8_valid_len (take 1024 text)) (take 1024 text)

-- the message of a point's diagnostic
unfoldable pub message_of : ℕ → List (List ℕ) → List ℕ
message_of level diagnostic = cut (join_with_byte 10 (map (unindented (4 * level + 2)) diagnostic))

abbrev pub is_skip : Option Directive → Bool
is_skip None = false
is_skip (Some directive.Skip) = true
is_skip (Some directive.Todo) = false

-- how a point ended: it was skipped, or passed or failed
abbrev pub status_of : Test → Status
status_of t = if is_skip t.directive then Skip else (if t.passed then Pass else Fail)

-- the case of a point; one of a directive is expected, and so is one that passed
unfoldable pub point_case : List (List ℕ) → ℕ → Test → Case
point_case path level t = record {
  name = name_in path (point_name t);
  status = status_of t;
  expected = is_some t.directive || t.passed;
  duration = None;
  message = if is_skip t.directive || t.passed then [] else message_of level t.diagnostic;
}

-- the case of a number that has no point
unfoldable pub missing_case : List (List ℕ) → ℕ → Case
missing_case path k = record {
  name = name_in path (number_name k);
  status = Skip;
  expected = false;
  duration = None;
  message = [];
}

-- the case of a line, if it has one
abbrev pub case_said : List (List ℕ) → ℕ → Said → List Case
case_said path level (Plan count) = []
case_said path level (Point t) = point_case path level t ∷ []
case_said path level Bail = []
case_said path level Open = []
case_said path level (Missing k) = missing_case path k ∷ []

-- the cases of the numbers that a stream misses
abbrev pub missing_cases : List (List ℕ) → List Line → List Case
missing_cases path own = map (missing_case path) (missing_numbers own)

-- The cases of a stream's points and of the streams below it. A stream's missing points stand
-- behind all that it has.
abbrev pub listed : List (List ℕ) → ℕ → Stream → List Case
listed path last Ends = []
listed path last (Unfinished sub) =
    listed (path ++ codes "unfinished" ∷ []) 0 sub ++ missing_cases (path ++ codes "unfinished"
    ∷ []) (own_from 0 sub)
listed path last (Goes sub l rest) =
    (listed (path ++ name_for_subtest (numbered_said last l.said) ∷ []) 0 sub
    ++ missing_cases (path ++ name_for_subtest (numbered_said last l.said) ∷ []) (own_from 0 sub))
    ++ (case_said path l.level (numbered_said last l.said)
    ++ listed path (last_behind last l.said) rest)

-- the cases of a report
abbrev pub report_cases : Stream → List Case
report_cases t = listed [] 0 t ++ missing_cases [] (own_from 0 t)

-- how many bytes the names of cases have together
abbrev pub names_len : List Case → ℕ
names_len cases = sum_by (λ c. length c.name) cases
