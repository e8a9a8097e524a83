-- Parents of the artifacts of one request, all of which stand in one invocation.
use Rattle.std.specs.Prelude.{if◌then◌else◌, ℕ, List, [], length, take, drop, bytes_eq, codes, Option, Some, None, option_and_then}
use Rattle.serde_json.specs.Data.{Data, null, boolean, number, string, array, object, Items, no_items, item}
use Rattle.name_parts.specs.Sequences.{slash_place}
use Rattle.names_realms.specs.declared.parents.Parent.{Parent}
use Rattle.names_realms.specs.Parents.{parent_fault, IsParentName}
use Rattle.json_fields.specs.Faults.{here, first}
use Rattle.json_fields.specs.Fields.{set_at}
use Rattle.json_fields.specs.Texts.{a_text, IsText}
use Rattle.json_fields.specs.declared.faults.FieldFault.{FieldFault}
use Rattle.json_fields.specs.declared.faults.FaultKind.TheVariants.{BadValue}
use Rattle.json_fields.specs.declared.whys.Why.TheVariants.{Differs}
use Rattle.result_forms.specs.Fields.{text_in}
use Rattle.artifact_forms.specs.Names as name

-- the name of an invocation or of a result
abbrev pub a_parent : Data → Option FieldFault
a_parent = a_text parent_fault

abbrev pub IsParentOf : Data → Parent → Type 0
IsParentOf = IsText (λ text p. IsParentName p text)

-- the part of a parent's name that is an invocation's id: what stands behind `invocations/`, up to
-- the next `/`
abbrev pub behind_front : List ℕ → List ℕ
behind_front text = drop (length (codes "invocations/")) text

abbrev pub invocation_part : List ℕ → List ℕ
invocation_part text = take (slash_place (behind_front text)) (behind_front text)

-- a text that names the invocation of another one
abbrev pub a_same_invocation : List ℕ → Data → Option FieldFault
a_same_invocation leader null = None
a_same_invocation leader (boolean b) = None
a_same_invocation leader (number n) = None
a_same_invocation leader (string s) =
    if bytes_eq (invocation_part s) (invocation_part leader) then None
    else Some (here (BadValue Differs))
a_same_invocation leader (array ds) = None
a_same_invocation leader (object ms) = None

-- a parent in the invocation that another one's name names; its own grammar is judged first
unfoldable pub a_parent_beside : List ℕ → Data → Option FieldFault
a_parent_beside leader d = first (a_parent d) (a_same_invocation leader d)

-- the first element of a list
abbrev pub first_item : Items → Option Data
first_item no_items = None
first_item (item d ds) = Some d

abbrev pub first_in : Data → Option Data
first_in null = None
first_in (boolean b) = None
first_in (number n) = None
first_in (string s) = None
first_in (array ds) = first_item ds
first_in (object ms) = None

-- The leader of a batch: the parent that its first request names, as it is written.
abbrev pub parent_in : Option Data → List ℕ
parent_in None = []
parent_in (Some d) = text_in (set_at name.parent d)

abbrev pub leader_of : Data → List ℕ
leader_of batch = parent_in (option_and_then first_in (set_at name.requests batch))
