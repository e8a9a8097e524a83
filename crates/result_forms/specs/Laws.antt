-- Laws of the forms of batches.
use Rattle.std.specs.Prelude.{◌≡◌, ◌≤◌, ℕ, false, List, None}
use Rattle.serde_json.specs.Data.{Data, depth}
use Rattle.serde_json.specs.Written.{has_float}
use Rattle.json_fields.specs.Fields.{IsJson}
use Rattle.test_results.specs.declared.result.TestResult.{TestResult}
use Rattle.test_results.specs.declared.exoneration.TestExoneration.{TestExoneration}
use Rattle.field_kinds.specs.Requests.{RequestForm}
use Rattle.result_forms.specs.Replies.{result_data, exoneration_data}

-- The body is the JSON text of a value without a fault, which asks for this request.
pub record AsksBy {Q : Type 0} (f : RequestForm Q) (body : List ℕ) (q : Q) : Type 0 where
  pub value : Data
  pub json : IsJson body value
  pub no_fault : f.fault value ≡ None
  pub meant : f.means value q

-- One body asks for one request at most.
abbrev pub AsksForOne : {Q : Type 0} → RequestForm Q → Type 0
AsksForOne {Q} f = (body : List ℕ) (q r : Q) → AsksBy f body q → AsksBy f body r → q ≡ r

-- What it asks for is of its form.
abbrev pub AsksOfForm : {Q : Type 0} → RequestForm Q → Type 0
AsksOfForm {Q} f = (body : List ℕ) (q : Q) → AsksBy f body q → f.OfForm q

-- What is written of a request is read again as the same request.
abbrev pub IsReadAgain : {Q : Type 0} → RequestForm Q → Q → Type 0
IsReadAgain f q = (f.fault (f.json q) ≡ None) × f.means (f.json q) q

-- A value has no float and nests at most so deep, so that its compact text is known, and is read.
abbrev pub IsPlain : ℕ → Data → Type 0
IsPlain most d = (has_float d ≡ false) × (depth d ≤ most)

-- So is what is written of a request, whatever its texts are, and what replies show of a row.
abbrev pub WritesPlain : {Q : Type 0} → RequestForm Q → Type 0
WritesPlain {Q} f = (q : Q) → IsPlain 68 (f.json q)

abbrev pub ShowsPlainResults : Type 0
ShowsPlainResults = (id : List ℕ) (r : TestResult) → IsPlain 65 (result_data id r)

abbrev pub ShowsPlainExonerations : Type 0
ShowsPlainExonerations = (id : List ℕ) (x : TestExoneration) → IsPlain 65 (exoneration_data id x)
