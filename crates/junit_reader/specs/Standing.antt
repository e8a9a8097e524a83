-- The code's own words: what it keeps while it reads, of an unfinished tree.
use Rattle.std.specs.Prelude.{◌≡◌, ℕ, ◌||◌, if◌then◌else◌, true, false, List, [], ◌∷◌, ◌++◌, map, Option, Some, None, Result, Ok, Err, is_some, codes, Vec, take}
use Rattle.std.specs.Global.{Global}
use Rattle.std.specs.Option.{option_or}
use Rattle.std.specs.Str.{bytes_eq}
use Rattle.names_realms.specs.declared.states.Case.{Case}
use Rattle.junit_parts.specs.Bytes.{behind_white}
use Rattle.junit_parts.specs.Cases.{case_duration, case_name, cases_in, ended_case, first_told, own_text, role_in, role_of, text_named, told_first}
use Rattle.junit_parts.specs.Constructs.{Token}
use Rattle.junit_parts.specs.Flaws.{flaw_at, token_flaw}
use Rattle.junit_reader.specs.Fronts.{IsKept, front}
use Rattle.junit_parts.specs.Tags.{TagText}
use Rattle.junit_parts.specs.Tree.{Content, Unfinished, Outside, Within, grown, has_element, has_root}
use Rattle.junit_parts.specs.declared.faults.Cause.TheVariants.{NoRoot, NotWellFormed}
use Rattle.junit_parts.specs.declared.faults.Flaw.{Flaw}
use Rattle.junit_parts.specs.declared.faults.Stop.{Stop}
use Rattle.junit_parts.specs.declared.faults.Stop.TheVariants.{Memory, Flawed}
use Rattle.junit_reader.specs.declared.pending.Pending.{Pending}
use Rattle.junit_reader.specs.declared.reading.Open.{Open}
use Rattle.junit_reader.specs.declared.reading.Reading.{Reading}
use Rattle.junit_parts.specs.declared.roles.Role.{Role}
use Rattle.junit_parts.specs.declared.roles.Role.TheVariants.{Top, Suites, Suite, Testcase, Outcome, Passed}

-- a case of which nothing was read but its tag
pub record IsFresh (p : Pending) (tag : TagText) : Type 0 where
  pub name : p.name.items ≡ case_name tag
  pub duration : p.duration ≡ case_duration tag
  pub error : p.error ≡ None
  pub failure : p.failure ≡ None
  pub is_skipped : p.is_skipped ≡ false

-- the case of a tag, and of its content so far
pub record IsCaseSoFar (p : Pending) (tag : TagText) (content : Content) : Type 0 where
  pub name : p.name.items ≡ case_name tag
  pub duration : p.duration ≡ case_duration tag
  pub error : p.error ≡ first_told (codes "error") content
  pub failure : p.failure ≡ first_told (codes "failure") content
  pub is_skipped : p.is_skipped ≡ is_some (first_told (codes "skipped") content)

-- the same case
pub record IsSameCase (p q : Pending) : Type 0 where
  pub name : q.name.items ≡ p.name.items
  pub duration : q.duration ≡ p.duration
  pub error : q.error ≡ p.error
  pub failure : q.failure ≡ p.failure
  pub is_skipped : q.is_skipped ≡ p.is_skipped

-- what the outcome that is open tells
abbrev pub told_so_far : Pending → List ℕ
told_so_far p = told_first p.message.items (take p.text.solid p.text.front.items)

-- what is told is kept where it is the first of its kind
pub record IsNoted (p q : Pending) (name : List ℕ) : Type 0 where
  pub name_is : q.name.items ≡ p.name.items
  pub duration : q.duration ≡ p.duration
  pub error : q.error
      ≡ option_or p.error (if bytes_eq name (codes "error") then Some (told_so_far p) else None)
  pub failure : q.failure
      ≡ option_or p.failure (if bytes_eq name (codes "failure") then Some (told_so_far p) else None)
  pub is_skipped : q.is_skipped ≡ (p.is_skipped || bytes_eq name (codes "skipped"))

abbrev pub KeepsIn : Role → Pending → TagText → Content → Type 0 → Type 0
KeepsIn Testcase p tag content outside = IsCaseSoFar p tag content
KeepsIn Outcome p tag content outside =
    (p.message.items ≡ front (text_named (codes "message") tag))
    × IsKept p.text (behind_white (own_text content)) × outside
KeepsIn Passed p tag content outside = outside
KeepsIn Top p tag content outside = Unit {0}
KeepsIn Suites p tag content outside = Unit {0}
KeepsIn Suite p tag content outside = Unit {0}

-- the case that is open, and of it the outcome that is open
abbrev pub Keeps : Pending → Unfinished → Type 0
Keeps p (Outside content) = Unit {0}
Keeps p (Within outer left tag content) =
    KeepsIn (role_in (role_of outer) tag.name) p tag content (Keeps p outer)

-- the open elements, outermost first
abbrev pub opens : Unfinished → List (List ℕ × Role)
opens (Outside content) = []
opens (Within outer left tag content) =
    opens outer ++ (tag.name, role_in (role_of outer) tag.name) ∷ []

abbrev pub open_text : Open → List ℕ × Role
open_text o = (o.name.now, o.role)

-- the cases before the place
abbrev pub cases_so_far : Unfinished → List Case
cases_so_far (Outside content) = cases_in Top content
cases_so_far (Within outer left tag content) =
    cases_so_far outer ++ cases_in (role_in (role_of outer) tag.name) content

-- what is kept, of an unfinished tree
pub record StandsFor (s : Reading) (u : Unfinished) : Type 0 where
  pub open_is : map open_text s.opened.items ≡ opens u
  pub root : s.has_root ≡ has_root u
  pub cases : s.cases.items ≡ cases_so_far u
  pub pending : Keeps s.pending u

abbrev pub TakesAt : Unfinished → Result (Unit {0}) Stop → Reading → ℕ → Token → Type 0
TakesAt u (Ok done) new left token =
    (token_flaw u left token ≡ None) × StandsFor new (grown u left token)
TakesAt u (Err Memory) new left token = Unit {0}
TakesAt u (Err (Flawed flaw)) new left token = token_flaw u left token ≡ Some flaw

-- one construct more is kept where nothing is wrong with it
abbrev pub Takes : Reading → Result (Unit {0}) Stop → Reading → ℕ → Token → Type 0
Takes old result new left token =
    (u : Unfinished) → StandsFor old u → TakesAt u result new left token

-- what the start of an element does to the case that is open
abbrev pub Begins : Role → Pending → Pending → TagText → Type 0
Begins Testcase old new tag = IsFresh new tag
Begins Outcome old new tag =
    IsSameCase old new × (new.message.items ≡ front (text_named (codes "message") tag))
    × IsKept new.text (behind_white [])
Begins Top old new tag = new ≡ old
Begins Suites old new tag = new ≡ old
Begins Suite old new tag = new ≡ old
Begins Passed old new tag = new ≡ old

-- the role of the last of them
abbrev pub last_role : List (List ℕ × Role) → Role
last_role [] = Top
last_role (x ∷ []) = x.1
last_role (x ∷ y ∷ ys) = last_role (y ∷ ys)

-- what the end of an element of this name does to the case that is open, and to the cases
abbrev pub Ends : Role → Pending → Pending → List Case → List Case → List ℕ → Type 0
Ends Testcase old new before after name =
    after ≡ before
    ++ ended_case old.name.items old.duration old.error old.failure old.is_skipped ∷ []
Ends Outcome old new before after name = IsNoted old new name × (after ≡ before)
Ends Top old new before after name = (new ≡ old) × (after ≡ before)
Ends Suites old new before after name = (new ≡ old) × (after ≡ before)
Ends Suite old new before after name = (new ≡ old) × (after ≡ before)
Ends Passed old new before after name = (new ≡ old) × (after ≡ before)

-- what is answered at the end of the bytes
abbrev pub FinishesAt : Unfinished → Result (Vec Case Global) Stop → Type 0
FinishesAt (Outside content) (Ok found) =
    (has_element content ≡ true) × (found.items ≡ cases_in Top content)
FinishesAt (Within outer left tag content) (Ok found) = ⊥
FinishesAt u (Err Memory) = Unit {0}
FinishesAt (Outside content) (Err (Flawed flaw)) =
    (has_element content ≡ false) × (flaw ≡ flaw_at 0 NoRoot)
FinishesAt (Within outer left tag content) (Err (Flawed flaw)) = flaw ≡ flaw_at 0 NotWellFormed

abbrev pub Finishes : Reading → Result (Vec Case Global) Stop → Type 0
Finishes s result = (u : Unfinished) → StandsFor s u → FinishesAt u result

-- what is wrong with a tag, if anything
abbrev pub IsJudged : Result (Unit {0}) Stop → Option Flaw → Type 0
IsJudged (Ok done) found = found ≡ None
IsJudged (Err Memory) found = Unit {0}
IsJudged (Err (Flawed flaw)) found = found ≡ Some flaw
