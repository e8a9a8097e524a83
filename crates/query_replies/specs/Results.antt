-- What replies show of a result that is seen, whole or masked.
use Rattle.std.specs.Prelude.{ℕ, List, [], ◌∷◌, ◌++◌, Option, Some, option_and_then, option_map}
use Rattle.serde_json.specs.Data.{Data, string}
use Rattle.names_realms.specs.ResultNames.{result_name}
use Rattle.json_fields.specs.Names.{NameForm}
use Rattle.result_forms.specs.TextKinds.Statuses.{status_name}
use Rattle.form_fields.specs.Members.{object_of}
use Rattle.result_forms.specs.Names as field
use Rattle.result_forms.specs.Shown.{flag_shown, moment_data, properties_shown, reason_shown, span_data, tags_shown, text_shown, variant_shown}
use Rattle.query_pages.specs.VerdictMasks.Masks.{Hidden, Seen}
use Rattle.query_pages.specs.Seen.{SeenHeld}
use Rattle.query_replies.specs.Names as name

-- the name of the result: of its invocation, its test and its own id
abbrev pub name_of_seen : SeenHeld → List ℕ
name_of_seen held =
    result_name (record {
      invocation = held.invocation;
      test = held.result.test;
      result = held.result.result;
    })

-- what is shown of what may be hidden; nothing where it is
abbrev pub unless_hidden : (Hidden → Option Data) → Seen → Option Data
unless_hidden shown seen = option_and_then shown seen.hidden

-- what the result is
abbrev pub what_seen : Seen → List (NameForm × Option Data)
what_seen seen =
    (field.test_id, Some (string seen.test))
    ∷ (field.result_id, Some (string seen.result))
    ∷ (field.variant, unless_hidden (λ h. variant_shown h.pairs) seen)
    ∷ (field.expected, flag_shown seen.expected)
    ∷ (field.status, Some (string (status_name seen.status)))
    ∷ (field.summary_html, unless_hidden (λ h. text_shown h.summary) seen)
    ∷ []

-- and what else is shown of it
abbrev pub more_seen : Seen → List (NameForm × Option Data)
more_seen seen =
    (field.start_time, option_map moment_data seen.start)
    ∷ (field.duration, option_map span_data seen.duration)
    ∷ (field.tags, unless_hidden (λ h. tags_shown h.tags) seen)
    ∷ (field.failure_reason, reason_shown seen.message)
    ∷ (field.properties, unless_hidden (λ h. properties_shown h.properties) seen)
    ∷ (name.is_masked, flag_shown seen.masked)
    ∷ []

-- The members of a result, each with its value or none.
abbrev pub seen_members : SeenHeld → List (NameForm × Option Data)
seen_members held =
    (field.name, Some (string (name_of_seen held)))
    ∷ (field.variant_hash, text_shown held.result.label)
    ∷ (what_seen held.result ++ more_seen held.result)

-- a result as replies show it
abbrev pub seen_data : SeenHeld → Data
seen_data held = object_of (seen_members held)
