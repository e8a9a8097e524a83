-- Requests that an invocation include others, by the ids that they say.
use Rattle.std.specs.Prelude.{ℕ, List, [], ◌∷◌, All, Option, ⊤}
use Rattle.serde_json.specs.Data.{Data, object, no_members}
use Rattle.names_realms.specs.Names.{IsInvocationId}
use Rattle.json_fields.specs.Fields.{required, optional, fault_of, filled_at, set_at, Holds}
use Rattle.json_fields.specs.Kinds.{an_object, a_list, an_unbuilt_list, empty_text, HoldsList}
use Rattle.json_fields.specs.Writing.{put_required, put_list}
use Rattle.json_fields.specs.declared.faults.FieldFault.{FieldFault}
use Rattle.invocation_forms.specs.Names as name
use Rattle.invocation_forms.specs.Named.{an_invocation_name, IsNameOf, name_data}
use Rattle.field_kinds.specs.Requests.{RequestForm}

-- the including one, those to add, and those to remove, which isn't built yet
abbrev pub include_fields : List (Data → Option FieldFault)
include_fields =
    an_object
    ∷ required name.including_invocation empty_text an_invocation_name
    ∷ optional name.add_invocations (a_list an_invocation_name)
    ∷ optional name.remove_invocations an_unbuilt_list
    ∷ []

unfoldable pub an_include_request : Data → Option FieldFault
an_include_request d = fault_of include_fields d

-- A value asks that the invocation that it names include others.
pub record IsInclude (d : Data) (including : List ℕ) (add : List (List ℕ)) : Type 0 where
  pub including_is : Holds IsNameOf (filled_at name.including_invocation empty_text d) including
  pub added_are : HoldsList IsNameOf (set_at name.add_invocations d) add

-- what is written of the request
abbrev pub include_data : List ℕ → List (List ℕ) → Data
include_data including add =
    object (put_required name.including_invocation name_data including
    (put_list name.add_invocations name_data add no_members))

pub record IsIncludeOfForm (including : List ℕ) (add : List (List ℕ)) : Type 0 where
  pub including_is : IsInvocationId including
  pub added_are : All IsInvocationId add

abbrev pub include_form : {Q : Type 0} → (Q → List ℕ) → (Q → List (List ℕ)) → RequestForm Q
include_form including add = record {
  fault = an_include_request;
  means = λ d q. IsInclude d (including q) (add q);
  json = λ q. include_data (including q) (add q);
  OfForm = λ q. IsIncludeOfForm (including q) (add q);
  CanBeAsked = λ q. ⊤;
}
