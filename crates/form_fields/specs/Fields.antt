-- Kinds of values, and fields of an object that hold them. A form is its fields in their order.
use Rattle.std.specs.Prelude.{◌≡◌, ◌+◌, ℕ, max, Bool, false, List, [], ◌∷◌, ◌++◌, All, Option, Some, None, option_map, ⊤}
use Rattle.std.specs.Option.{ForSome}
use Rattle.serde_json.specs.Data.{Data}
use Rattle.json_fields.specs.Names.{NameForm}
use Rattle.json_fields.specs.Faults.{first}
use Rattle.json_fields.specs.Fields.{required, optional, filled_at, set_at, Holds, HoldsMaybe}
use Rattle.json_fields.specs.Kinds.{a_list, empty_list, never_empty, HoldsList, IsEach}
use Rattle.json_fields.specs.Writing.{is_bare, list_data}
use Rattle.json_fields.specs.declared.faults.FieldFault.{FieldFault}
use Rattle.field_kinds.specs.Defaults.{HoldsOr}
use Rattle.field_kinds.specs.Filled.{optional_filled}
use Rattle.field_kinds.specs.Requests.{RequestForm}
use Rattle.form_fields.specs.Members.{list_or_none}

-- A kind of values: the fault of one, what one without a fault means, which ones are empty and what
-- those mean; which values of the program are of its form, what is written of one, and how many
-- levels that nests at most.
pub record Kind (A : Type 0) : Type 1 where
  pub fault : Data → Option FieldFault
  pub means : Data → A → Type 0
  pub empty : Data → Bool
  pub blank : A → Bool
  pub OfForm : A → Type 0
  pub json : A → Data
  pub levels : ℕ

-- Fields of an object, with one value for all of them: their names, their first fault, what they
-- mean, which values are of their form, and the members that are written of one.
pub record Fields (V : Type 0) : Type 1 where
  pub names : List NameForm
  pub fault : Data → Option FieldFault
  pub means : Data → V → Type 0
  pub OfForm : V → Type 0
  pub members : V → List (NameForm × Option Data)
  pub levels : ℕ

-- a field that must be set
abbrev pub required_field : {A : Type 0} → NameForm → Kind A → Fields A
required_field n k = record {
  names = n ∷ [];
  fault = required n k.empty k.fault;
  means = λ d. Holds k.means (filled_at n k.empty d);
  OfForm = λ a. k.OfForm a × (k.blank a ≡ false);
  members = λ a. (n, Some (k.json a)) ∷ [];
  levels = k.levels;
}

-- a field that may be unset
abbrev pub optional_field : {A : Type 0} → NameForm → Kind A → Fields (Option A)
optional_field n k = record {
  names = n ∷ [];
  fault = optional n k.fault;
  means = λ d. HoldsMaybe k.means (set_at n d);
  OfForm = λ o. ForSome o k.OfForm;
  members = λ o. (n, option_map k.json o) ∷ [];
  levels = k.levels;
}

-- a field that may be unset or empty
abbrev pub filled_field : {A : Type 0} → NameForm → Kind A → Fields (Option A)
filled_field n k = record {
  names = n ∷ [];
  fault = optional_filled n k.empty k.fault;
  means = λ d. HoldsMaybe k.means (filled_at n k.empty d);
  OfForm = λ o. ForSome o k.OfForm;
  members = λ o. (n, option_map k.json o) ∷ [];
  levels = k.levels;
}

-- A field with a default, which is left out where it is written.
abbrev pub default_field : {A : Type 0} → NameForm → Kind A → A → (A → Option Data) → Fields A
default_field n k default shown = record {
  names = n ∷ [];
  fault = optional n k.fault;
  means = λ d. HoldsOr k.means default (set_at n d);
  OfForm = k.OfForm;
  members = λ a. (n, shown a) ∷ [];
  levels = k.levels;
}

-- a list of a kind
abbrev pub list_kind : {A : Type 0} → Kind A → Kind (List A)
list_kind k = record {
  fault = a_list k.fault;
  means = IsEach k.means;
  empty = empty_list;
  blank = is_bare;
  OfForm = All k.OfForm;
  json = list_data k.json;
  levels = k.levels + 1;
}

-- a field of a list, which is left out where it is empty
abbrev pub list_field : {A : Type 0} → NameForm → Kind A → Fields (List A)
list_field n k = record {
  names = n ∷ [];
  fault = optional n (a_list k.fault);
  means = λ d. HoldsList k.means (set_at n d);
  OfForm = All k.OfForm;
  members = λ xs. (n, list_or_none k.json xs) ∷ [];
  levels = k.levels + 1;
}

-- the requests of a form as a kind of values, whose fields these are
abbrev pub object_kind : {Q V : Type 0} → RequestForm Q → Fields V → Kind Q
object_kind r f = record {
  fault = r.fault;
  means = r.means;
  empty = never_empty;
  blank = λ q. false;
  OfForm = r.OfForm;
  json = r.json;
  levels = f.levels + 1;
}

-- A field of which a value keeps nothing, and which isn't written.
abbrev pub unused_field : NameForm → (Data → Option FieldFault) → Fields ⊤
unused_field n fault = record {
  names = n ∷ [];
  fault = optional n fault;
  means = λ d v. ⊤;
  OfForm = λ v. ⊤;
  members = λ v. (n, None) ∷ [];
  levels = 0;
}

-- fields, and others after them; and the last ones
abbrev pub both : {A B : Type 0} → Fields A → Fields B → Fields (A × B)
both f g = record {
  names = f.names ++ g.names;
  fault = λ d. first (f.fault d) (g.fault d);
  means = λ d v. f.means d v.0 × g.means d v.1;
  OfForm = λ v. f.OfForm v.0 × g.OfForm v.1;
  members = λ v. f.members v.0 ++ g.members v.1;
  levels = max f.levels g.levels;
}

abbrev pub last : {A : Type 0} → Fields A → Fields A
last f = record {
  names = f.names;
  fault = λ d. first (f.fault d) None;
  means = f.means;
  OfForm = f.OfForm;
  members = f.members;
  levels = f.levels;
}

-- Fields, and others that are judged beside what these mean. The object tells their first fault
-- before it is known what it means.
abbrev pub beside : {A B : Type 0} → Fields A → (A → Fields B) → (Data → Option FieldFault)
    → List NameForm → ℕ → Fields (A × B)
beside f g fault names levels = record {
  names = f.names ++ names;
  fault = λ d. first (f.fault d) (fault d);
  means = λ d v. f.means d v.0 × (g v.0).means d v.1;
  OfForm = λ v. f.OfForm v.0 × (g v.0).OfForm v.1;
  members = λ v. f.members v.0 ++ (g v.0).members v.1;
  levels = max f.levels levels;
}
