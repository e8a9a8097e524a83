-- Update masks: one text that names the fields that a request changes, and fields that are looked
-- at only where it names them.
use Rattle.std.specs.Prelude.{◌≡◌, ◌==◌, ◌||◌, if◌then◌else◌, ⊤, ℕ, Bool, true, false, List, codes, Option, Some, None}
use Rattle.std.specs.List.{list_all, list_any, slice_split}
use Rattle.std.specs.Str.{bytes_eq}
use Rattle.serde_json.specs.Data.{Data, null, boolean, number, string, array, object}
use Rattle.json_fields.specs.Faults.{here}
use Rattle.json_fields.specs.Fields.{filled_at}
use Rattle.json_fields.specs.Kinds.{empty_text}
use Rattle.json_fields.specs.Names.{NameForm}
use Rattle.json_fields.specs.declared.faults.FaultKind.TheVariants.{WrongKind, BadValue}
use Rattle.json_fields.specs.declared.faults.FieldFault.{FieldFault}
use Rattle.json_fields.specs.declared.whys.Why.TheVariants.{NotUpdatable}
use Rattle.invocation_forms.specs.Names as name
use Rattle.invocation_forms.specs.declared.masks.UpdateMask.{UpdateMask}

-- the pieces of a text between its commas
abbrev pub pieces : List ℕ → List (List ℕ)
pieces text = slice_split (λ b. b == 44) text

-- the fields that can be updated
abbrev pub can_be_updated : List ℕ → Bool
can_be_updated field = bytes_eq field (codes "deadline") || bytes_eq field (codes "tags")

-- one text of names of such fields, parted by commas
abbrev pub a_mask : Data → Option FieldFault
a_mask null = Some (here WrongKind)
a_mask (boolean b) = Some (here WrongKind)
a_mask (number n) = Some (here WrongKind)
a_mask (string s) =
    if list_all can_be_updated (pieces s) then None else Some (here (BadValue NotUpdatable))
a_mask (array ds) = Some (here WrongKind)
a_mask (object ms) = Some (here WrongKind)

-- whether a mask's text names the field
abbrev pub names : List ℕ → List ℕ → Bool
names text field = list_any (λ piece. bytes_eq piece field) (pieces text)

-- what a mask's text names
pub record IsMask (text : List ℕ) (mask : UpdateMask) : Type 0 where
  pub deadline_is : mask.deadline ≡ names text (codes "deadline")
  pub tags_is : mask.tags ≡ names text (codes "tags")

-- whether a request's mask names the field
abbrev pub named_in : List ℕ → Data → Bool
named_in field null = false
named_in field (boolean b) = false
named_in field (number n) = false
named_in field (string s) = names s field
named_in field (array ds) = false
named_in field (object ms) = false

abbrev pub named_by : List ℕ → Option Data → Bool
named_by field None = false
named_by field (Some d) = named_in field d

unfoldable pub is_named : NameForm → Data → Bool
is_named n d = named_by n.camel (filled_at name.update_mask empty_text d)

-- a fault that counts only where a mask names the field
abbrev pub only_where : Bool → Option FieldFault → Option FieldFault
only_where true fault = fault
only_where false fault = None

-- the fields that the request's mask names
abbrev pub mask_in : Data → UpdateMask
mask_in d = record { deadline = is_named name.deadline d; tags = is_named name.tags d }

-- its value, which is there exactly where the mask names it
abbrev pub HoldsWhere : {A : Type 0} → Bool → (A → Type 0) → Option A → Type 0
HoldsWhere true holds None = ⊥
HoldsWhere true holds (Some a) = holds a
HoldsWhere false holds None = ⊤
HoldsWhere false holds (Some a) = ⊥
