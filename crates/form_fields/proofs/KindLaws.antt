-- The kinds are lawful.
use Rattle.std.proofs.Common.{◌≡◌, ◌==◌, ℕ, false, List, [], ◌∷◌, length, Option, Some, None, IfSome, refl, subst, arith}
use Rattle.std.specs.Prelude.{All}
use Rattle.std.specs.Option.{ForSome}
use Rattle.std.proofs.lemmas.List.Elements.{All-cons, All-nil}
use Rattle.std.proofs.lemmas.Option.{none-some, same_Some}
use Rattle.serde_json.specs.Data.{Data, null, boolean, number, string, array, object}
use Rattle.name_parts.specs.Parts.{IsPart, part_fault}
use Rattle.name_parts.specs.declared.faults.NameFault.{NameFault}
use Rattle.name_parts.specs.declared.faults.NameFault.TheVariants as name
use Rattle.name_parts.specs.declared.parts.PartForm.{PartForm}
use Rattle.name_parts.specs.declared.parts.PartForm.TheVariants.{PairKey}
use Rattle.name_parts.proofs.PartLemmas.{IsPart-part_fault}
use Rattle.names_realms.specs.Names.{invocation_name_fault, IsInvocationName}
use Rattle.names_realms.specs.Realms.{realm_fault}
use Rattle.names_realms.specs.declared.pairs.Pair.{Pair}
use Rattle.moments_spans.specs.MomentGrammar.{IsMomentText}
use Rattle.json_fields.specs.Kinds.{empty_text, never_empty}
use Rattle.json_fields.specs.Texts.{a_text, moment_fault, refused, IsSame, IsText}
use Rattle.json_fields.specs.Writing.{AllWritten, IsSpelled, IsWritten}
use Rattle.json_fields.proofs.FormLaws.{GivesForm, moment_form, part_form, realm_form, text_form}
use Rattle.json_fields.proofs.MeaningLaws.{moment_one, moment_there, same_one, same_there}
use Rattle.json_fields.proofs.PlainLaws.{IsPlain, plain_text}
use Rattle.json_fields.proofs.SpellLaws.{moment_spelled, part_spelled, realm_spelled}
use Rattle.json_fields.proofs.TextLaws.{moment_empty}
use Rattle.json_fields.proofs.WriteLaws.{text_written}
use Rattle.field_kinds.specs.PairKinds.Tags.{a_tag, tag_data, IsTag, IsPairOfGrammar}
use Rattle.field_kinds.proofs.PairKinds.TagLaws.{plain_tag, tag_form, tag_one, tag_there, tag_written}
use Rattle.field_kinds.specs.TextKinds.Texts.{is_blank, request_id_why, IsRequestId}
use Rattle.field_kinds.proofs.TextKinds.NameLaws.{invocation_name_spelled, name_one, name_there}
use Rattle.field_kinds.proofs.TextKinds.TagTextLaws.{value_right}
use Rattle.field_kinds.proofs.TextKinds.TextLaws.{not_blank, only_request_ids_are_read, read_form, string_there}
use Rattle.form_fields.specs.Fields.{Kind}
use Rattle.form_fields.specs.Kinds.{invocation_kind, moment_kind, part_kind, realm_kind, request_id_kind, tag_kind, text_kind}
use Rattle.form_fields.specs.Laws.{IsLawfulKind}
use Rattle.form_fields.proofs.TextLaws.{by_text}

-- ---- texts that spell a value

not_bare : (b : ℕ) (bs : List ℕ) → (length (b ∷ bs) == 0) ≡ false
not_bare b bs = grind arith

none_of_empty : (o : Option NameFault) → o ≡ Some name.Empty → refused o ≡ None → ⊥
none_of_empty None e none = absurd cc
none_of_empty (Some f) e none =
    let k : refused (Some name.Empty) ≡ None = subst (λ (p : Option NameFault). refused p ≡ None) e none in absurd cc

module _ {A : Type 0} (fault : List ℕ → Option NameFault) (spells : List ℕ → A → Type 0) (OfForm : A → Type 0) (spelling : A → List ℕ) where
  not_empty : fault [] ≡ Some name.Empty → (s : List ℕ) (a : A) → spells s a → a_text fault (string s) ≡ None → empty_text (string s) ≡ false
  not_empty e [] a is none = absurd (none_of_empty (fault []) e none)
  not_empty e (b ∷ bs) a is none = not_bare b bs

  -- a grammar that refuses the empty text as empty, in which a text means one value
  pub text_lawful : fault [] ≡ Some name.Empty → ((d : Data) (a b : A) → IsText spells d a → IsText spells d b → a ≡ b)
      → ((d : Data) → a_text fault d ≡ None → (a : A) × IsText spells d a) → GivesForm (a_text fault) (IsText spells) OfForm
      → ((a : A) → OfForm a → IsSpelled fault spells (spelling a) a) → IsLawfulKind (text_kind fault spells OfForm spelling)
  text_lawful empty one there formed spelled = record {
    one = one;
    there = λ d is none. there d none;
    formed = formed;
    told = λ d a none is. by_text spells (λ e x. a_text fault e ≡ None → empty_text e ≡ false) (not_empty empty) d a is none;
    again = λ a is. text_written fault spells (spelling a) a (spelled a is);
    plain = λ a. plain_text 0 (spelling a);
  }

pub part_lawful : (form : PartForm) → IsLawfulKind (part_kind form)
part_lawful form =
    text_lawful (part_fault form) IsSame (IsPart form) (λ text. text) refl same_one (same_there (part_fault form)) (part_form form) (part_spelled form)

pub realm_lawful : IsLawfulKind realm_kind
realm_lawful = text_lawful realm_fault IsSame _ (λ text. text) refl same_one (same_there realm_fault) realm_form realm_spelled

pub moment_lawful : IsLawfulKind moment_kind
moment_lawful = text_lawful moment_fault IsMomentText _ _ moment_empty moment_one moment_there moment_form moment_spelled

pub invocation_lawful : IsLawfulKind invocation_kind
invocation_lawful =
    text_lawful invocation_name_fault (λ text id. IsInvocationName id text) _ _ refl name_one name_there
    (text_form invocation_name_fault (λ text id. IsInvocationName id text) _ (λ s id none is. is.1)) invocation_name_spelled

-- ---- request ids

pub request_id_lawful : IsLawfulKind request_id_kind
request_id_lawful = record {
  one = same_one;
  there = λ d is none. string_there request_id_why d none;
  formed = read_form;
  told = λ d a none is. by_text IsSame (λ e text. empty_text e ≡ is_blank text) (λ text a same. rw same refl) d a is;
  again = λ text is. record { is_set = refl; no_fault = rw ((only_request_ids_are_read text).1 is) refl; meant = refl; emptiness = refl };
  plain = λ text. plain_text 0 text;
}

pub request_id_filled : (text : List ℕ) → IsRequestId text → is_blank text ≡ false
request_id_filled text is = not_blank text is.filled

-- ---- tags

-- what is written of tags, where that is read again
pub tag_lawful : (json : Pair → Data) → ((tag : Pair) → IsPairOfGrammar tag → IsWritten a_tag IsTag never_empty (λ _. false) tag (json tag))
    → ((tag : Pair) → IsPlain 1 (json tag)) → IsLawfulKind (tag_kind json)
tag_lawful json written plain = record {
  one = tag_one;
  there = λ d is none. tag_there d none;
  formed = tag_form;
  told = λ d a none is. refl;
  again = written;
  plain = plain;
}

tag_of_form : (tag : Pair) → IsPairOfGrammar tag → IsWritten a_tag IsTag never_empty (λ _. false) tag (tag_data tag)
tag_of_form tag is = tag_written tag.key tag.value (IsPart-part_fault PairKey tag.key is.0) (value_right tag.value is.1)

pub tag_data_lawful : IsLawfulKind (tag_kind tag_data)
tag_data_lawful = tag_lawful tag_data tag_of_form plain_tag

-- ---- what is written and read again is of its form

module _ {A : Type 0} (k : Kind A) (law : IsLawfulKind k) where
  pub written_form : (a : A) → IsWritten k.fault k.means k.empty k.blank a (k.json a) → k.OfForm a
  written_form a w = law.formed (k.json a) a w.no_fault w.meant

  pub some_form : (o : Option A) → IfSome o (λ a. IsWritten k.fault k.means k.empty k.blank a (k.json a)) → ForSome o k.OfForm
  some_form None w a e = absurd (none-some a e)
  some_form (Some b) w a e = subst k.OfForm (same_Some b a e) (written_form b w)

  pub all_form : (xs : List A) → AllWritten k.fault k.means k.empty k.blank k.json xs → All k.OfForm xs
  all_form [] all = All-nil k.OfForm
  all_form (x ∷ xs) all = All-cons k.OfForm x xs (written_form x all.0) (all_form xs all.1)
