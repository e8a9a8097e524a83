-- What is wrong with a construct where it stands.
use Rattle.std.specs.Prelude.{◌≡◌, ℕ, ◌-◌, ◌==◌, nat_le, if◌then◌else◌, Bool, true, false, List, [], ◌∷◌, length, Option, Some, None, Result, Ok, Err, is_none, option_map, codes}
use Rattle.std.specs.Option.{option_or}
use Rattle.std.specs.Str.{bytes_eq}
use Rattle.junit_parts.specs.Bytes.{is_white, run_len}
use Rattle.junit_parts.specs.Cases.{role_in, role_of}
use Rattle.junit_parts.specs.Constructs.{Leaf, Text, Reference, Data, Comment, Token, Stands, Opens, Whole, Closes, Entity, Doctype, Instruction}
use Rattle.junit_parts.specs.Tags.{AttributeText, TagText}
use Rattle.junit_parts.specs.Times.{time_from}
use Rattle.junit_parts.specs.Tree.{Content, Nothing, Then, Element, Unfinished, Outside, Within, depth_of, has_root}
use Rattle.junit_parts.specs.Values.{flaw_in, named_text, value_of}
use Rattle.junit_parts.specs.declared.faults.Cause.{Cause}
use Rattle.junit_parts.specs.declared.faults.Cause.TheVariants as cause
use Rattle.junit_parts.specs.declared.faults.Flaw.{Flaw}
use Rattle.junit_parts.specs.declared.faults.Unsupported.TheVariants as unsupported
use Rattle.junit_parts.specs.declared.roles.Role.{Role}
use Rattle.junit_parts.specs.declared.roles.Role.TheVariants as role

abbrev pub flaw_at : ℕ → Cause → Flaw
flaw_at left what = record { left = left; cause = what }

-- the first faulty reference of attributes, at its own place
abbrev pub flaw_of_attribute : AttributeText → Option Flaw
flaw_of_attribute a =
    option_map (λ f. flaw_at (a.left - (length a.value - f.left)) f.cause)
    (flaw_in (value_of a.value))

abbrev pub first_flaw : List AttributeText → Option Flaw
first_flaw [] = None
first_flaw (a ∷ attributes) = option_or (flaw_of_attribute a) (first_flaw attributes)

-- The one root is a `testsuites` or a `testsuite`.
abbrev pub is_root_name : List ℕ → Bool
is_root_name name =
    if bytes_eq name (codes "testsuites") then true else bytes_eq name (codes "testsuite")

abbrev pub root_cause : Role → Bool → List ℕ → Option Cause
root_cause role.Top true name = Some cause.NotWellFormed
root_cause role.Top false name = if is_root_name name then None else Some cause.NoRoot
root_cause role.Suites root name = None
root_cause role.Suite root name = None
root_cause role.Testcase root name = None
root_cause role.Outcome root name = None
root_cause role.Passed root name = None

-- A case has a name, and its time is one. What has a faulty reference isn't judged by it.
abbrev pub is_missing : Result (List ℕ) Flaw → Bool
is_missing (Ok []) = true
is_missing (Ok (b ∷ bs)) = false
is_missing (Err flaw) = false

abbrev pub is_bad_time : Result (List ℕ) Flaw → Bool
is_bad_time (Ok text) = is_none (time_from text)
is_bad_time (Err flaw) = false

abbrev pub case_cause : TagText → Option Cause
case_cause tag =
    if is_missing (named_text (codes "name") tag) then Some cause.MissingName
    else (if is_bad_time (named_text (codes "time") tag) then Some cause.BadTime
    else None)

abbrev pub cause_by_role : Role → TagText → Option Cause
cause_by_role role.Testcase tag = case_cause tag
cause_by_role role.Top tag = None
cause_by_role role.Suites tag = None
cause_by_role role.Suite tag = None
cause_by_role role.Outcome tag = None
cause_by_role role.Passed tag = None

-- at most 32 elements are open
abbrev pub depth_cause : ℕ → Option Cause
depth_cause depth = if nat_le 32 depth then Some cause.TooDeep else None

-- what is wrong with a tag at its own place, the first of these, in this order
abbrev pub tag_cause : Role → Bool → ℕ → TagText → Option Cause
tag_cause outer root depth tag =
    option_or (root_cause outer root tag.name)
    (option_or (cause_by_role (role_in outer tag.name) tag) (depth_cause depth))

abbrev pub at_place : ℕ → Option Cause → Option Flaw
at_place left found = option_map (flaw_at left) found

abbrev pub tag_flaw : Role → Bool → ℕ → ℕ → TagText → Option Flaw
tag_flaw outer root depth left tag =
    option_or (at_place left (tag_cause outer root depth tag)) (first_flaw tag.attributes)

-- Outside the root stand white space and comments.
abbrev pub outside_flaw : ℕ → Leaf → Option Flaw
outside_flaw left (Text text) =
    if run_len is_white text == length text then None
    else Some (flaw_at (left - run_len is_white text) cause.NotWellFormed)
outside_flaw left (Reference c) = Some (flaw_at left cause.NotWellFormed)
outside_flaw left (Data text) = Some (flaw_at left cause.NotWellFormed)
outside_flaw left Comment = None

-- What is wrong with a construct, so many bytes before the end, behind an unfinished tree.
abbrev pub token_flaw : Unfinished → ℕ → Token → Option Flaw
token_flaw (Outside content) left (Stands leaf) = outside_flaw left leaf
token_flaw (Within outer place start content) left (Stands leaf) = None
token_flaw (Outside content) left (Closes name) = Some (flaw_at left cause.NotWellFormed)
token_flaw (Within outer place start content) left (Closes name) =
    if bytes_eq start.name name then None else Some (flaw_at left cause.NotWellFormed)
token_flaw (Outside content) left Entity = Some (flaw_at left cause.NotWellFormed)
token_flaw (Within outer place start content) left Entity =
    Some (flaw_at left (cause.Unsupported unsupported.Entity))
token_flaw u left Doctype = Some (flaw_at left (cause.Unsupported unsupported.Doctype))
token_flaw u left Instruction = Some (flaw_at left (cause.Unsupported unsupported.Instruction))
token_flaw u left (Opens tag) = tag_flaw (role_of u) (has_root u) (depth_of u) left tag
token_flaw u left (Whole tag) = tag_flaw (role_of u) (has_root u) (depth_of u) left tag

-- Nothing is wrong with any construct of content that stands where `spot` puts it.
abbrev pub IsSoundAt : (Content → Unfinished) → Content → Type 0
IsSoundAt spot Nothing = Unit {0}
IsSoundAt spot (Then before left leaf) =
    IsSoundAt spot before × (token_flaw (spot before) left (Stands leaf) ≡ None)
IsSoundAt spot (Element before left tag own None) =
    IsSoundAt spot before × (token_flaw (spot before) left (Whole tag) ≡ None)
IsSoundAt spot (Element before left tag own (Some end)) =
    IsSoundAt spot before × (token_flaw (spot before) left (Opens tag) ≡ None)
    × IsSoundAt (λ c. Within (spot before) left tag c) own
    × (token_flaw (Within (spot before) left tag own) end.0 (Closes end.1) ≡ None)

-- the same of an unfinished tree
abbrev pub IsSound : Unfinished → Type 0
IsSound (Outside content) = IsSoundAt (λ c. Outside c) content
IsSound (Within outer left tag content) =
    IsSound outer × (token_flaw outer left (Opens tag) ≡ None)
    × IsSoundAt (λ c. Within outer left tag c) content
