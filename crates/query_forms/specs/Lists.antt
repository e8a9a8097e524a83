-- The invocations that a query names.
use Rattle.std.specs.Prelude.{◌≢◌, ◌≤◌, ℕ, List, [], All, length, map, unwrap_or, Option, Some, None}
use Rattle.serde_json.specs.Data.{Data, null, boolean, number, string, array, object}
use Rattle.serde_json.specs.Find.{as_str}
use Rattle.names_realms.specs.Names.{IsInvocationId}
use Rattle.json_fields.specs.Fields.{required, filled_at, list_of, Holds}
use Rattle.json_fields.specs.Kinds.{empty_list, IsEach}
use Rattle.json_fields.specs.declared.faults.FieldFault.{FieldFault}
use Rattle.field_kinds.specs.Lists.{a_limited_list, most_names}
use Rattle.invocation_forms.specs.Named.{an_invocation_name, IsNameOf}
use Rattle.query_forms.specs.Names as name

-- a list of names, of which there is one at least; that they are too many is told before any of
-- them is judged
abbrev pub names_of_query : Data → Option FieldFault
names_of_query d =
    required name.invocations empty_list (a_limited_list most_names an_invocation_name) d

-- the invocations that they name, in their order
abbrev pub AreNamed : Data → List (List ℕ) → Type 0
AreNamed d ids = Holds (IsEach IsNameOf) (filled_at name.invocations empty_list d) ids

-- The names of a list as they are written; one that is no text counts as empty.
abbrev pub text_of : Data → List ℕ
text_of d = unwrap_or (as_str d) []

abbrev pub names_in : Data → List (List ℕ)
names_in null = []
names_in (boolean b) = []
names_in (number n) = []
names_in (string s) = []
names_in (array ds) = map text_of (list_of ds)
names_in (object ms) = []

abbrev pub names_at : Option Data → List (List ℕ)
names_at None = []
names_at (Some d) = names_in d

-- ids of invocations, at least one and at most as many as a query may name
pub record AreOfForm (ids : List (List ℕ)) : Type 0 where
  pub some : ids ≢ []
  pub few : length ids ≤ most_names
  pub grammar : All IsInvocationId ids
