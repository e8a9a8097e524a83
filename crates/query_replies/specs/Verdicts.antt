-- What replies show of a verdict that is seen.
use Rattle.std.specs.Prelude.{ℕ, List, [], ◌∷◌, codes, Option, Some, None, is_none, option_and_then}
use Rattle.serde_json.specs.Data.{Data, string}
use Rattle.json_fields.specs.Names.{NameForm}
use Rattle.json_fields.specs.Writing.{list_data}
use Rattle.form_fields.specs.Members.{object_of}
use Rattle.result_forms.specs.Names as field
use Rattle.result_forms.specs.Shown.{flag_shown, text_shown, variant_shown}
use Rattle.query_pages.specs.VerdictLists.declared.verdict.VerdictStatus.{VerdictStatus}
use Rattle.query_pages.specs.VerdictLists.declared.verdict.VerdictStatus.TheVariants.{Unexpected, UnexpectedlySkipped, Flaky, Exonerated, Expected}
use Rattle.query_pages.specs.Seen.{SeenHeld, SeenVerdict}
use Rattle.query_replies.specs.Names as name
use Rattle.query_replies.specs.Results.{seen_data}

-- the name of a verdict's status
abbrev pub verdict_status : VerdictStatus → List ℕ
verdict_status Unexpected = codes "UNEXPECTED"
verdict_status UnexpectedlySkipped = codes "UNEXPECTEDLY_SKIPPED"
verdict_status Flaky = codes "FLAKY"
verdict_status Exonerated = codes "EXONERATED"
verdict_status Expected = codes "EXPECTED"

-- a list, none where it is empty
abbrev pub list_shown : {A : Type 0} → (A → Data) → List A → Option Data
list_shown json [] = None
list_shown json (x ∷ xs) = Some (list_data json (x ∷ xs))

-- a result of a verdict, as the one member of an object
abbrev pub outcome_data : SeenHeld → Data
outcome_data held = object_of ((name.outcome, Some (seen_data held)) ∷ [])

-- an exoneration, by its explanation where that may be seen
abbrev pub exoneration_data : Option (List ℕ) → Data
exoneration_data explanation =
    object_of ((field.explanation_html, option_and_then text_shown explanation) ∷ [])

-- The members of a verdict, each with its value or none. It is masked where its variant may not be
-- seen.
abbrev pub verdict_members : SeenVerdict → List (NameForm × Option Data)
verdict_members verdict =
    (field.test_id, Some (string verdict.test))
    ∷ (field.variant, option_and_then variant_shown verdict.variant)
    ∷ (field.variant_hash, text_shown verdict.label)
    ∷ (field.status, Some (string (verdict_status verdict.status)))
    ∷ (name.is_masked, flag_shown (is_none verdict.variant))
    ∷ (name.results, list_shown outcome_data verdict.results)
    ∷ (name.exonerations, list_shown exoneration_data verdict.exonerations)
    ∷ []

abbrev pub verdict_data : SeenVerdict → Data
verdict_data verdict = object_of (verdict_members verdict)
