-- Laws of the forms of requests for artifacts.
use Rattle.std.specs.Prelude.{◌≡◌, ℕ, List, None}
use Rattle.serde_json.specs.Data.{Data}
use Rattle.json_fields.specs.Fields.{IsJson}
use Rattle.field_kinds.specs.Requests.{RequestForm}
use Rattle.result_forms.specs.Laws.{AsksBy, AsksForOne, AsksOfForm, WritesPlain}

-- A body whose value has no fault asks for a request.
abbrev pub AsksWhereRight : {Q : Type 0} → RequestForm Q → Type 0
AsksWhereRight {Q} f =
    (body : List ℕ) (d : Data) → IsJson body d → f.fault d ≡ None → (q : Q) × AsksBy f body q

-- What is so of the form of each method: one body asks for one request at most, and for one where
-- its value has no fault; what it asks for is of its form; and what is written has no float and
-- nests at most 68 levels.
pub record IsSound {Q : Type 0} (f : RequestForm Q) : Type 0 where
  pub one : AsksForOne f
  pub there : AsksWhereRight f
  pub formed : AsksOfForm f
  pub plain : WritesPlain f
