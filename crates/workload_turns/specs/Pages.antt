-- Pages of verdicts, as replies show them.
use Rattle.std.specs.Prelude.{◌≡◌, ℕ, List, [], ◌++◌, codes, Option, Some, None, option_and_then, ◌⊎◌}
use Rattle.serde_json.specs.Data.{Data, Items}
use Rattle.serde_json.specs.Find.{as_array, as_str, get}
use Rattle.call_forms.specs.declared.forms.Answer.{Answer}
use Rattle.json_fields.specs.Fields.{IsJson, list_of}
use Rattle.page_tokens.specs.Cursors.{verdict_contents, verdict_parts}
use Rattle.page_tokens.specs.Tokens.{IsToken}
use Rattle.page_tokens.specs.declared.kinds.VerdictCursor.{VerdictCursor}

-- The verdicts that a page shows, and the token of the page behind it.
pub record Page : Type 0 where
  pub verdicts : List Data
  pub next : Option (List ℕ)

abbrev pub no_page : Page
no_page = record { verdicts = []; next = None }

abbrev pub listed : Option Items → List Data
listed None = []
listed (Some items) = list_of items

abbrev pub verdicts_of : Data → List Data
verdicts_of d = listed (option_and_then as_array (get (codes "testVariants") d))

abbrev pub next_of : Data → Option (List ℕ)
next_of d = option_and_then as_str (get (codes "nextPageToken") d)

abbrev pub page_of : Data → Page
page_of d = record { verdicts = verdicts_of d; next = next_of d }

-- A body is the prefix of every reply, and JSON.
abbrev pub HasJson : List ℕ → Data → Type 0
HasJson body d = (text : List ℕ) × (body ≡ codes ")]}'\n" ++ text) × IsJson text d

-- A reply of status 200 shows this.
abbrev pub ShowsJson : Answer → Data → Type 0
ShowsJson answer d = (answer.status ≡ 200) × HasJson answer.body d

-- A reply shows this page; one that is refused, or isn't JSON, shows none.
abbrev pub Shows : Answer → Page → Type 0
Shows answer page =
    ((d : Data) × ShowsJson answer d × (page ≡ page_of d))
    ⊎ (((d : Data) → ¬ ShowsJson answer d) × (page ≡ no_page))

-- The cursor of which this text is the token of a query, where there is one.
abbrev pub IsCursorOf : List ℕ → List ℕ → Option VerdictCursor → Type 0
IsCursorOf query text (Some cursor) =
    IsToken query 1 verdict_parts (verdict_contents cursor) text
IsCursorOf query text None =
    (cursor : VerdictCursor) → ¬ IsToken query 1 verdict_parts (verdict_contents cursor) text

-- The next page begins behind this verdict, or there is none.
abbrev pub IsNext : List ℕ → Option (List ℕ) → Option VerdictCursor → Type 0
IsNext query None next = next ≡ None
IsNext query (Some text) next = IsCursorOf query text next
