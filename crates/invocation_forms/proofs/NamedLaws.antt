-- What names an invocation, made of its one field.
use Rattle.std.proofs.Common.{◌≡◌, ℕ, false, List, None, refl, arith}
use Rattle.names_realms.specs.Names.{IsInvocationId}
use Rattle.serde_json.specs.Data.{Data}
use Rattle.json_fields.specs.Kinds.{empty_text}
use Rattle.json_fields.specs.Writing.{IsWritten}
use Rattle.json_fields.proofs.FormLaws.{GivesForm}
use Rattle.field_kinds.specs.Requests.{RequestForm}
use Rattle.field_kinds.proofs.RequestLaws.{IsLawful}
use Rattle.field_kinds.proofs.ThereLaws.{IsThere}
use Rattle.form_fields.specs.Fields.{Fields, last, object_kind, required_field}
use Rattle.form_fields.specs.Kinds.{invocation_kind}
use Rattle.form_fields.specs.Laws.{AreLawful, IsLawfulKind, IsMadeOf}
use Rattle.form_fields.proofs.FieldLaws.{last_lawful, required_lawful}
use Rattle.form_fields.proofs.KindLaws.{invocation_lawful, written_form}
use Rattle.form_fields.proofs.RequestLaws.{object_lawful, read_again, request_lawful}
use Rattle.invocation_forms.specs.Named.{an_invocation_name, IsNameOf, a_named, IsNamed, name_data, named_data, named_form}
use Rattle.invocation_forms.specs.Names as name

pub name_written : (id : List ℕ) → IsInvocationId id → IsWritten an_invocation_name IsNameOf empty_text (λ _. false) id (name_data id)
name_written id is = invocation_lawful.again id is

abbrev named_fields : Fields (List ℕ)
named_fields = last (required_field name.name invocation_kind)

named_are : AreLawful named_fields
named_are = last_lawful _ (required_lawful name.name invocation_kind invocation_lawful)

-- an object with the name, as the id that it names
abbrev id_form : RequestForm (List ℕ)
id_form = record { fault = a_named; means = IsNamed; json = named_data; OfForm = IsInvocationId; CanBeAsked = IsInvocationId }

id_made : IsMadeOf id_form named_fields
unfolding a_named
id_made = record {
  made = λ id. id;
  parts = λ id. id;
  held = λ id. refl;
  whole = λ d id is. refl;
  faults = λ d. refl;
  told = λ d id is. is;
  said = λ d id of is. is;
  in_form = λ id of. (of, refl);
  of_form = λ id of. of.0;
  members = λ id. refl;
  apart = refl;
}

id_lawful : IsLawfulKind (object_kind id_form named_fields)
id_lawful = object_lawful id_form named_fields id_made named_are

pub named_one : (d : Data) (a b : List ℕ) → IsNamed d a → IsNamed d b → a ≡ b
named_one = id_lawful.one

pub named_there : IsThere a_named IsNamed
named_there = id_lawful.there

pub named_formed : GivesForm a_named IsNamed IsInvocationId
named_formed = id_lawful.formed

pub named_written : (id : List ℕ) → IsWritten an_invocation_name IsNameOf empty_text (λ _. false) id (name_data id)
    → (a_named (named_data id) ≡ None) × IsNamed (named_data id) id
named_written id w = read_again id_form named_fields id_made named_are id (written_form invocation_kind invocation_lawful id w)

-- requests that say nothing else
request_made : IsMadeOf named_form named_fields
unfolding a_named
request_made = record {
  made = λ id. record { id = id };
  parts = λ q. q.id;
  held = λ id. refl;
  whole = λ d q is. refl;
  faults = λ d. refl;
  told = λ d q is. is;
  said = λ d q of is. is;
  in_form = λ q of. (of, refl);
  of_form = λ id of. of.0;
  members = λ q. refl;
  apart = refl;
}

pub named_lawful : IsLawful named_form
named_lawful = request_lawful named_form named_fields request_made named_are (λ d q none is. tt) (omega arith)
