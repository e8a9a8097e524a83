-- Faults of fields, which of two comes first, and the text of a path.
use Rattle.std.specs.Prelude.{◌≡◌, ℕ, List, [], ◌∷◌, ◌++◌, codes, decimal, Option, Some, None, ⊤}
use Rattle.json_fields.specs.declared.names.Step.{Step}
use Rattle.json_fields.specs.declared.names.Step.TheVariants.{Member, Place}
use Rattle.json_fields.specs.declared.faults.FaultKind.{FaultKind}
use Rattle.json_fields.specs.declared.faults.FieldFault.{FieldFault}
use Rattle.json_fields.specs.declared.faults.ReadFault.{ReadFault}
use Rattle.json_fields.specs.declared.faults.ReadFault.TheVariants.{Field, Memory}

-- a fault of the value itself
abbrev pub here : FaultKind → FieldFault
here kind = record { kind = kind; path = [] }

-- a fault of a part, as one of the whole
abbrev pub under : Step → FieldFault → FieldFault
under step f = record { kind = f.kind; path = step ∷ f.path }

abbrev pub moved : Step → Option FieldFault → Option FieldFault
moved step None = None
moved step (Some f) = Some (under step f)

-- the first fault of two
abbrev pub first : Option FieldFault → Option FieldFault → Option FieldFault
first None b = b
first (Some f) b = Some f

-- The reader tells this fault, or that memory was wanting.
abbrev pub Says : ReadFault → Option FieldFault → Type 0
Says Memory o = ⊤
Says (Field f) o = o ≡ Some f

-- a step to a member is its name behind a point, one to an element its place in brackets
abbrev pub step_text : Step → List ℕ
step_text (Member name) = codes "." ++ name.camel
step_text (Place place) = codes "[" ++ (decimal place ++ codes "]")

abbrev pub steps_text : List Step → List ℕ
steps_text [] = []
steps_text (step ∷ steps) = step_text step ++ steps_text steps

-- the first step stands without a point
abbrev pub first_text : Step → List ℕ
first_text (Member name) = name.camel
first_text (Place place) = step_text (Place place)

-- The text of a path into a body: its steps in turn. The body itself is `body`.
abbrev pub path_text : List Step → List ℕ
path_text [] = codes "body"
path_text (step ∷ steps) = first_text step ++ steps_text steps
