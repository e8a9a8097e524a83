-- The texts of replies to queries: a result, a page of results and a page of verdicts.
use Rattle.std.specs.Prelude.{ℕ, List, [], ◌∷◌, ◌++◌, codes, Option, option_and_then}
use Rattle.serde_json.specs.Data.{Data}
use Rattle.serde_json.specs.Written.{compact_text}
use Rattle.json_fields.specs.Names.{NameForm}
use Rattle.form_fields.specs.Members.{object_of}
use Rattle.result_forms.specs.Shown.{text_shown}
use Rattle.query_pages.specs.Seen.{SeenRows, SeenVerdicts}
use Rattle.query_replies.specs.Names as name
use Rattle.query_replies.specs.Results.{seen_data}
use Rattle.query_replies.specs.Verdicts.{list_shown, verdict_data}

-- A page of rows under a name, each as it is shown, and the token of the page behind it. What is
-- empty or unset is left out.
abbrev pub page_data : {A : Type 0} → NameForm → (A → Data) → List A → Option (List ℕ) → Data
page_data rows shown xs next =
    object_of ((rows, list_shown shown xs)
    ∷ (name.next_page_token, option_and_then text_shown next) ∷ [])

abbrev pub results_page : SeenRows → Data
results_page page = page_data name.test_results seen_data page.rows page.next

abbrev pub verdicts_page : SeenVerdicts → Data
verdicts_page page = page_data name.test_variants verdict_data page.verdicts page.next

-- The text of a reply: what every pRPC reply in JSON begins with, so that no browser takes it for a
-- script, and the compact text of what is shown.
abbrev pub reply_of : Data → List ℕ
reply_of data_shown = codes ")]}'\n" ++ compact_text data_shown
