-- Kinds of values that several forms have.
use Rattle.std.specs.Prelude.{◌≤◌, ◌==◌, if◌then◌else◌, ℕ, ℤ, false, List, Option, Some, None}
use Rattle.serde_json.specs.Data.{Data, string}
use Rattle.name_parts.specs.Parts.{IsPart, part_fault}
use Rattle.name_parts.specs.declared.faults.NameFault.{NameFault}
use Rattle.name_parts.specs.declared.parts.PartForm.{PartForm}
use Rattle.names_realms.specs.Names.{invocation_name, invocation_name_fault, IsInvocationId, IsInvocationName}
use Rattle.names_realms.specs.Realms.{realm_fault, IsRealm}
use Rattle.names_realms.specs.declared.pairs.Pair.{Pair}
use Rattle.moments_spans.specs.Moments.{moment_text, IsInYears}
use Rattle.moments_spans.specs.MomentGrammar.{IsMomentText}
use Rattle.json_fields.specs.Names.{NameForm}
use Rattle.json_fields.specs.Kinds.{empty_text, never_empty}
use Rattle.json_fields.specs.Texts.{a_text, moment_fault, IsSame, IsText}
use Rattle.json_fields.specs.declared.whys.Why.{Why}
use Rattle.field_kinds.specs.Numbers.{a_whole, IsSaid}
use Rattle.field_kinds.specs.PairKinds.Tags.{a_tag, IsTag, IsPairOfGrammar}
use Rattle.field_kinds.specs.TextKinds.Texts.{a_request_id, a_string, is_blank, IsRequestId}
use Rattle.form_fields.specs.Fields.{Fields, Kind, default_field}

-- What a text spells, by its grammar's fault. No value has the empty text.
abbrev pub text_kind : {A : Type 0} → (List ℕ → Option NameFault) → (List ℕ → A → Type 0)
    → (A → Type 0) → (A → List ℕ) → Kind A
text_kind fault spells OfForm spelling = record {
  fault = a_text fault;
  means = IsText spells;
  empty = empty_text;
  blank = λ a. false;
  OfForm = OfForm;
  json = λ a. string (spelling a);
  levels = 0;
}

-- What a text spells, by why a text is refused.
abbrev pub string_kind : {A : Type 0} → (List ℕ → Option Why) → (List ℕ → A → Type 0)
    → (A → Type 0) → (A → List ℕ) → Kind A
string_kind why spells OfForm spelling = record {
  fault = a_string why;
  means = IsText spells;
  empty = empty_text;
  blank = λ a. false;
  OfForm = OfForm;
  json = λ a. string (spelling a);
  levels = 0;
}

abbrev pub part_kind : PartForm → Kind (List ℕ)
part_kind form = text_kind (part_fault form) IsSame (IsPart form) (λ text. text)

abbrev pub realm_kind : Kind (List ℕ)
realm_kind = text_kind realm_fault IsSame IsRealm (λ text. text)

abbrev pub moment_kind : Kind ℤ
moment_kind = text_kind moment_fault IsMomentText IsInYears moment_text

-- an invocation's id, by the invocation's name
abbrev pub invocation_kind : Kind (List ℕ)
invocation_kind =
    text_kind invocation_name_fault (λ text id. IsInvocationName id text) IsInvocationId
    invocation_name

abbrev pub request_id_kind : Kind (List ℕ)
request_id_kind = record {
  fault = a_request_id;
  means = IsText IsSame;
  empty = empty_text;
  blank = is_blank;
  OfForm = IsRequestId;
  json = λ text. string text;
  levels = 0;
}

-- a tag, and what is written of one
abbrev pub tag_kind : (Pair → Data) → Kind Pair
tag_kind json = record {
  fault = a_tag;
  means = IsTag;
  empty = never_empty;
  blank = λ tag. false;
  OfForm = IsPairOfGrammar;
  json = json;
  levels = 1;
}

-- A whole number within a bound; and a field of one, of which 0 is left out.
abbrev pub whole_kind : ℕ → (ℕ → Data) → Kind ℕ
whole_kind most json = record {
  fault = a_whole most;
  means = IsSaid;
  empty = never_empty;
  blank = λ n. false;
  OfForm = λ n. n ≤ most;
  json = json;
  levels = 0;
}

abbrev pub unless_zero : (ℕ → Data) → ℕ → Option Data
unless_zero json n = if n == 0 then None else Some (json n)

abbrev pub whole_field : NameForm → ℕ → (ℕ → Data) → Fields ℕ
whole_field n most json = default_field n (whole_kind most json) 0 (unless_zero json)
