-- Requests for a new invocation.
use Rattle.std.specs.Prelude.{ℕ, List, [], ◌∷◌, All, Option, ⊤}
use Rattle.std.specs.Option.{ForSome}
use Rattle.serde_json.specs.Data.{Data, string, object, no_members}
use Rattle.names_realms.specs.Names.{invocation_id_fault, IsInvocationId}
use Rattle.names_realms.specs.Realms.{realm_fault, IsRealm}
use Rattle.moments_spans.specs.Moments.{moment_text, IsInYears}
use Rattle.moments_spans.specs.MomentGrammar.{IsMomentText}
use Rattle.json_fields.specs.Fields.{required, optional, fault_of, filled_at, set_at, Holds, HoldsMaybe}
use Rattle.json_fields.specs.Kinds.{an_object, a_list, empty_text, never_empty, HoldsList}
use Rattle.json_fields.specs.Texts.{a_text, IsText, IsSame, moment_fault}
use Rattle.field_kinds.specs.PairKinds.Tags.{a_tag, tag_data, IsTag, IsPairOfGrammar}
use Rattle.json_fields.specs.Writing.{put_required, put_optional, put_list}
use Rattle.json_fields.specs.declared.faults.FieldFault.{FieldFault}
use Rattle.field_kinds.specs.Filled.{optional_filled}
use Rattle.field_kinds.specs.TextKinds.Texts.{a_request_id, IsRequestId}
use Rattle.invocation_forms.specs.Names as name
use Rattle.field_kinds.specs.Requests.{RequestForm}
use Rattle.invocation_forms.specs.declared.create.NewInvocation.{NewInvocation}
use Rattle.invocation_forms.specs.declared.create.CreateInvocation.{CreateInvocation}

-- of the invocation in a request for a new one: a realm, maybe a deadline, and tags
abbrev pub new_invocation_fields : List (Data → Option FieldFault)
new_invocation_fields =
    an_object
    ∷ required name.realm empty_text (a_text realm_fault)
    ∷ optional name.deadline (a_text moment_fault)
    ∷ optional name.tags (a_list a_tag)
    ∷ []

unfoldable pub a_new_invocation : Data → Option FieldFault
a_new_invocation d = fault_of new_invocation_fields d

pub record IsNewInvocation (d : Data) (new : NewInvocation) : Type 0 where
  pub realm_is : Holds (IsText IsSame) (filled_at name.realm empty_text d) new.realm
  pub deadline_is : HoldsMaybe (IsText IsMomentText) (set_at name.deadline d) new.deadline
  pub tags_are : HoldsList IsTag (set_at name.tags d) new.tags

-- of a request for a new invocation: maybe a request id, the new id, and the invocation
abbrev pub create_fields : List (Data → Option FieldFault)
create_fields =
    an_object
    ∷ optional_filled name.request_id empty_text a_request_id
    ∷ required name.invocation_id empty_text (a_text invocation_id_fault)
    ∷ required name.invocation never_empty a_new_invocation
    ∷ []

unfoldable pub a_create_request : Data → Option FieldFault
a_create_request d = fault_of create_fields d

-- A value asks for a new invocation with its id and what its `invocation` says, by its request id
-- where that is neither unset, nor null, nor empty.
pub record IsCreate (d : Data) (q : CreateInvocation) : Type 0 where
  pub request_id_is : HoldsMaybe (IsText IsSame) (filled_at name.request_id empty_text d)
      q.request_id
  pub id_is : Holds (IsText IsSame) (filled_at name.invocation_id empty_text d) q.id
  pub new_is : Holds IsNewInvocation (filled_at name.invocation never_empty d) q.invocation

-- What is written of the invocation, with what is unset or empty left out, and of the request.
abbrev pub new_invocation_data : NewInvocation → Data
new_invocation_data new =
    object (put_required name.realm (λ text. string text) new.realm
    (put_optional name.deadline (λ z. string (moment_text z)) new.deadline
    (put_list name.tags tag_data new.tags no_members)))

abbrev pub create_members : Option (List ℕ) → List ℕ → Data → Data
create_members request_id id new =
    object (put_optional name.request_id (λ text. string text) request_id
    (put_required name.invocation_id (λ text. string text) id
    (put_required name.invocation (λ d. d) new no_members)))

abbrev pub create_data : CreateInvocation → Data
create_data q = create_members q.request_id q.id (new_invocation_data q.invocation)

-- All that the request names or gives is of its grammar, and its deadline lies in the years 1 to
-- 9999.
pub record IsNewOfForm (new : NewInvocation) : Type 0 where
  pub realm : IsRealm new.realm
  pub deadline : ForSome new.deadline IsInYears
  pub tags : All IsPairOfGrammar new.tags

pub record IsCreateOfForm (q : CreateInvocation) : Type 0 where
  pub request_id : ForSome q.request_id IsRequestId
  pub id : IsInvocationId q.id
  pub invocation : IsNewOfForm q.invocation

abbrev pub new_form : RequestForm NewInvocation
new_form = record {
  fault = a_new_invocation;
  means = IsNewInvocation;
  json = new_invocation_data;
  OfForm = IsNewOfForm;
  CanBeAsked = λ new. ⊤;
}

abbrev pub create_form : RequestForm CreateInvocation
create_form = record {
  fault = a_create_request;
  means = IsCreate;
  json = create_data;
  OfForm = IsCreateOfForm;
  CanBeAsked = λ q. ⊤;
}
