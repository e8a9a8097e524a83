-- A text that isn't refused as a result's name names one result.
use Rattle.std.proofs.Common.{◌≡◌, ℕ, List, None, refl}
use Rattle.name_parts.specs.Pieces.{name_fault}
use Rattle.name_parts.proofs.NameLemmas.{name_fault-told}
use Rattle.names_realms.specs.ResultNames.{IsResultName, result_name, result_name_fault, result_pieces}
use Rattle.names_realms.specs.declared.result_names.ResultName.{ResultName}
use Rattle.names_realms.proofs.NameLaws.{one_result_named}
use Rattle.names_realms.proofs.ResultNameLemmas.{result_named}
use Rattle.serde_json.specs.Data.{Data}
use Rattle.json_fields.specs.Texts.{refused}
use Rattle.json_fields.proofs.FormLaws.{GivesForm, text_form}
use Rattle.json_fields.proofs.MeaningLaws.{text_one, text_there}
use Rattle.json_fields.proofs.NameLaws.{whole_refused}
use Rattle.query_forms.specs.Single.{IsResultNamed, a_result_name}

result_name_spelled : (text : List ℕ) → refused (result_name_fault text) ≡ None → (r : ResultName) × IsResultName r text
result_name_spelled text h = result_named text (whole_refused (name_fault result_pieces) text (name_fault-told result_pieces text) h)

pub result_name_one : (d : Data) (a b : ResultName) → IsResultNamed d a → IsResultNamed d b → a ≡ b
result_name_one d a b h k = text_one (λ text r. IsResultName r text) (λ text x y e f. one_result_named x y text e f) d a b h k

pub result_name_there : (d : Data) → a_result_name d ≡ None → (r : ResultName) × IsResultNamed d r
result_name_there d h = text_there result_name_fault (λ text r. IsResultName r text) result_name_spelled d h

named_itself : (s : List ℕ) (r : ResultName) → refused (result_name_fault s) ≡ None → IsResultName r s → IsResultName r (result_name r)
named_itself s r none is = record { spelling = refl; invocation = is.invocation; test = is.test; result = is.result }

pub result_name_form : GivesForm a_result_name IsResultNamed (λ r. IsResultName r (result_name r))
result_name_form = text_form result_name_fault (λ text r. IsResultName r text) (λ r. IsResultName r (result_name r)) named_itself
