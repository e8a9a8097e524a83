-- The cases of a report, as a fold over its tree.
use Rattle.std.specs.Prelude.{ℕ, if◌then◌else◌, Bool, true, false, List, [], ◌∷◌, ◌++◌, Option, Some, None, Result, Ok, Err, is_some, codes, encode_utf8}
use Rattle.std.specs.Option.{option_or}
use Rattle.std.specs.Str.{bytes_eq}
use Rattle.names_realms.specs.declared.states.Case.{Case}
use Rattle.names_realms.specs.declared.states.Status.TheVariants.{Pass, Fail, Crash, Skip}
use Rattle.junit_parts.specs.Constructs.{Leaf, Text, Reference, Data, Comment}
use Rattle.junit_parts.specs.Messages.{cut, trimmed}
use Rattle.junit_parts.specs.Tags.{TagText}
use Rattle.junit_parts.specs.Times.{time_from}
use Rattle.junit_parts.specs.Tree.{Content, Nothing, Then, Element, Unfinished, Outside, Within}
use Rattle.junit_parts.specs.Values.{named_text}
use Rattle.junit_parts.specs.declared.faults.Flaw.{Flaw}
use Rattle.junit_parts.specs.declared.roles.Role.{Role}
use Rattle.junit_parts.specs.declared.roles.Role.TheVariants.{Top, Suites, Suite, Testcase, Outcome, Passed}

-- A `testsuite` in the root `testsuites` or in another one.
abbrev pub inner_of_suites : List ℕ → Role
inner_of_suites name = if bytes_eq name (codes "testsuite") then Suite else Passed

abbrev pub inner_of_top : List ℕ → Role
inner_of_top name = if bytes_eq name (codes "testsuites") then Suites else inner_of_suites name

abbrev pub inner_of_suite : List ℕ → Role
inner_of_suite name = if bytes_eq name (codes "testcase") then Testcase else inner_of_suites name

abbrev pub inner_of_case : List ℕ → Role
inner_of_case name =
    if bytes_eq name (codes "error") then Outcome
    else (if bytes_eq name (codes "failure") then Outcome
    else (if bytes_eq name (codes "skipped") then Outcome
    else Passed))

-- what an element of this name is, directly in what has a role
abbrev pub role_in : Role → List ℕ → Role
role_in Top name = inner_of_top name
role_in Suites name = inner_of_suites name
role_in Suite name = inner_of_suite name
role_in Testcase name = inner_of_case name
role_in Outcome name = Passed
role_in Passed name = Passed

-- what the innermost open element is
abbrev pub role_of : Unfinished → Role
role_of (Outside content) = Top
role_of (Within outer left tag content) = role_in (role_of outer) tag.name

abbrev pub text_or_nothing : Result (List ℕ) Flaw → List ℕ
text_or_nothing (Ok text) = text
text_or_nothing (Err flaw) = []

-- the text of an attribute, nothing where there is none
abbrev pub text_named : List ℕ → TagText → List ℕ
text_named name tag = text_or_nothing (named_text name tag)

-- own text: text, characters and CDATA directly in the element
abbrev pub leaf_text : Leaf → List ℕ
leaf_text (Text text) = text
leaf_text (Reference c) = encode_utf8 c
leaf_text (Data text) = text
leaf_text Comment = []

abbrev pub own_text : Content → List ℕ
own_text Nothing = []
own_text (Then before left leaf) = own_text before ++ leaf_text leaf
own_text (Element before left tag own end) = own_text before

-- what is told of a message, or where there is none of a text that is trimmed
abbrev pub told_first : List ℕ → List ℕ → List ℕ
told_first [] text = cut text
told_first (b ∷ bs) text = cut (b ∷ bs)

-- the attribute `message`, or where that is absent or empty the own text, trimmed
abbrev pub told_by : List ℕ → List ℕ → List ℕ
told_by [] text = cut (trimmed text)
told_by (b ∷ bs) text = cut (b ∷ bs)

abbrev pub told_of : TagText → Content → List ℕ
told_of tag own = told_by (text_named (codes "message") tag) (own_text own)

-- what the first element of this name directly in the content tells
abbrev pub first_told : List ℕ → Content → Option (List ℕ)
first_told name Nothing = None
first_told name (Then before left leaf) = first_told name before
first_told name (Element before left tag own end) =
    option_or (first_told name before)
    (if bytes_eq tag.name name then Some (told_of tag own) else None)

-- how a case ended, by its first error, its first failure and its first skip
pub record Ending : Type 0 where
  pub error : Option (List ℕ)
  pub failure : Option (List ℕ)
  pub is_skipped : Bool

abbrev pub ending_of : Content → Ending
ending_of own = record {
  error = first_told (codes "error") own;
  failure = first_told (codes "failure") own;
  is_skipped = is_some (first_told (codes "skipped") own);
}

-- an error before a failure, a failure before a skip, and passed without any
abbrev pub without_error : List ℕ → Option ℕ → Option (List ℕ) → Bool → Case
without_error name duration (Some message) skipped =
    record { name = name; status = Fail; expected = false; duration = duration; message = message }
without_error name duration None true =
    record { name = name; status = Skip; expected = true; duration = duration; message = [] }
without_error name duration None false =
    record { name = name; status = Pass; expected = true; duration = duration; message = [] }

abbrev pub ended_case : List ℕ → Option ℕ → Option (List ℕ) → Option (List ℕ) → Bool → Case
ended_case name duration (Some message) failure skipped =
    record { name = name; status = Crash; expected = false; duration = duration; message = message }
ended_case name duration None failure skipped = without_error name duration failure skipped

-- the class and the name with a point between them, or the name alone
abbrev pub joined_name : List ℕ → List ℕ → List ℕ
joined_name [] name = name
joined_name (c ∷ cs) name = (c ∷ cs) ++ 46 ∷ name

abbrev pub case_name : TagText → List ℕ
case_name tag = joined_name (text_named (codes "classname") tag) (text_named (codes "name") tag)

abbrev pub span_in : Option (Option ℕ) → Option ℕ
span_in (Some (Some micros)) = Some micros
span_in (Some None) = None
span_in None = None

abbrev pub case_duration : TagText → Option ℕ
case_duration tag = span_in (time_from (text_named (codes "time") tag))

-- the case of a `testcase`
abbrev pub case_of : TagText → Content → Case
case_of tag own =
    ended_case (case_name tag) (case_duration tag)
    (ending_of own).error (ending_of own).failure (ending_of own).is_skipped

-- what an element adds, by its role: a suite the cases in it, a case itself
abbrev pub added_by : Role → List Case → Case → List Case
added_by Suites inner case = inner
added_by Suite inner case = inner
added_by Testcase inner case = case ∷ []
added_by Top inner case = inner
added_by Outcome inner case = []
added_by Passed inner case = []

-- The cases in content that stands directly in what has a role.
abbrev pub cases_in : Role → Content → List Case
cases_in role Nothing = []
cases_in role (Then before left leaf) = cases_in role before
cases_in role (Element before left tag own end) =
    cases_in role before
    ++ added_by (role_in role tag.name) (cases_in (role_in role tag.name) own) (case_of tag own)
