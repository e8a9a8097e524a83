-- What replies show of a result and of an exoneration, whole.
use Rattle.std.specs.Prelude.{ℕ, List, ◌∷◌, ◌++◌, codes, decimal, Some}
use Rattle.serde_json.specs.Data.{Data, string}
use Rattle.name_parts.specs.Escapes.{escaped}
use Rattle.names_realms.specs.Variants.{label_of}
use Rattle.names_realms.specs.ResultNames.{result_name}
use Rattle.test_results.specs.declared.result.TestResult.{TestResult}
use Rattle.test_results.specs.declared.exoneration.TestExoneration.{TestExoneration}
use Rattle.result_forms.specs.Names as name
use Rattle.form_fields.specs.Members.{object_of}
use Rattle.result_forms.specs.Results.{result_members}
use Rattle.result_forms.specs.Exonerations.{exoneration_members}

-- the name of a result of the invocation with this id
abbrev pub name_of_result : List ℕ → TestResult → List ℕ
name_of_result id r = result_name (record { invocation = id; test = r.test; result = r.result })

-- A result as a batch's reply shows it: what it is, its name, and its variant's label.
abbrev pub result_data : List ℕ → TestResult → Data
result_data id r =
    object_of ((name.name, Some (string (name_of_result id r)))
    ∷ (name.variant_hash, Some (string (label_of r.variant)))
    ∷ result_members r)

-- The id of an exoneration is its variant's label and its place, and its name
-- `invocations/{id}/tests/{escaped test id}/exonerations/{exoneration id}`.
abbrev pub exoneration_id : TestExoneration → List ℕ
exoneration_id x = label_of x.variant ++ (codes ":" ++ decimal x.place)

abbrev pub name_of_exoneration : List ℕ → TestExoneration → List ℕ
name_of_exoneration id x =
    codes "invocations/" ++ (id ++ (codes "/tests/" ++ (escaped x.test
    ++ (codes "/exonerations/" ++ exoneration_id x))))

abbrev pub exoneration_data : List ℕ → TestExoneration → Data
exoneration_data id x =
    object_of ((name.exoneration_id, Some (string (exoneration_id x)))
    ∷ (name.name, Some (string (name_of_exoneration id x)))
    ∷ (name.variant_hash, Some (string (label_of x.variant)))
    ∷ exoneration_members x)
