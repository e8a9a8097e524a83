-- The kinds of fields of a row, which are lawful.
use Rattle.std.proofs.Common.{◌≡◌, ◌≤◌, ◌==◌, ◌||◌, ◌⊎◌, inl, inr, ℕ, Bool, true, false, List, [], ◌∷◌, length, codes, bytes_eq, Option, Some, None, option_map, refl, ap, subst, arith}
use Rattle.std.specs.Prelude.{⊤}
use Rattle.std.specs.Str.{IsUtf8}
use Rattle.std.proofs.lemmas.Slice.Eq.{bytes_eq-Decides}
use Rattle.std.proofs.lemmas.Str.{IsUtf8-nil}
use Rattle.serde_json.specs.Data.{Data, null, boolean, number, string, array, object}
use Rattle.serde_json.specs.Written.{compact_text}
use Rattle.moments_spans.specs.Spans.{most_span, span_text}
use Rattle.moments_spans.specs.SpanGrammar.{IsSpanText}
use Rattle.names_realms.specs.Variants.{IsAscending}
use Rattle.names_realms.specs.declared.pairs.Pair.{Pair}
use Rattle.names_realms.specs.declared.states.Status.{Status}
use Rattle.names_realms.specs.declared.states.Status.TheVariants.{Pass, Fail, Crash, Abort, Skip}
use Rattle.json_fields.specs.Names.{NameForm}
use Rattle.json_fields.specs.Fields.{filled_at}
use Rattle.json_fields.specs.Kinds.{never_empty}
use Rattle.json_fields.specs.Texts.{a_text, span_fault, IsText}
use Rattle.json_fields.specs.Writing.{IsWritten}
use Rattle.json_fields.specs.declared.whys.Why.{Why}
use Rattle.json_fields.proofs.MeaningLaws.{text_there}
use Rattle.json_fields.proofs.PlainLaws.{ArePlain, IsPlain, plain_text}
use Rattle.json_fields.proofs.SpellLaws.{span_spelled}
use Rattle.json_fields.proofs.TextLaws.{span_empty, span_of_text}
use Rattle.field_kinds.specs.Defaults.{HoldsOr}
use Rattle.field_kinds.specs.Filled.{optional_filled}
use Rattle.field_kinds.specs.Flags.{a_flag, IsFlag}
use Rattle.field_kinds.specs.Properties.{a_properties, empty_object}
use Rattle.field_kinds.specs.Requests.{RequestForm}
use Rattle.field_kinds.specs.TextKinds.Statuses.{a_status, no_status, status_name, status_of, unless_known, IsStatus}
use Rattle.field_kinds.specs.TextKinds.Texts.{a_string}
use Rattle.field_kinds.specs.Variants.{a_variant, def_members, variant_data, AreOfGrammar, IsVariant}
use Rattle.field_kinds.proofs.CompactLaws.{compact_read, compact_utf8}
use Rattle.field_kinds.proofs.PairKinds.TagLaws.{plain_tag}
use Rattle.field_kinds.proofs.ReadValues.{IsReadValue}
use Rattle.field_kinds.proofs.ThereLaws.{IsThere, there_or_filled, variant_there}
use Rattle.field_kinds.proofs.VariantLaws.{variant_written}
use Rattle.form_fields.specs.Fields.{Fields, Kind, default_field, last, object_kind}
use Rattle.form_fields.specs.Kinds.{tag_kind, text_kind}
use Rattle.form_fields.specs.Laws.{AreLawful, IsLawfulKind, IsMadeOf}
use Rattle.form_fields.proofs.FieldLaws.{default_lawful, last_lawful}
use Rattle.form_fields.proofs.KindLaws.{tag_lawful, text_lawful}
use Rattle.form_fields.proofs.RequestLaws.{object_lawful}
use Rattle.form_fields.proofs.TextLaws.{by_string}
use Rattle.result_forms.specs.Fields.{a_reason, message_why, IsMessage, IsPropertiesOf, IsPropertiesText, IsReason, IsUtf8Text}
use Rattle.result_forms.specs.Names as name
use Rattle.result_forms.specs.Shown.{flag_shown, pair_data, pair_shown, properties_shown, reason_of, reason_shown, text_shown, variant_shown}
use Rattle.result_forms.proofs.KindLaws.{flag_one, limited_form, message_empty, or_one, properties_form, properties_one, span_form, span_one, status_one, unrefused, utf8_one, variant_empty, variant_form}
use Rattle.result_forms.proofs.OrderLaws.{variant_one}
use Rattle.result_forms.proofs.PlainLaws.{flag_plain, properties_plain, reason_plain, right_plain, text_plain, variant_plain}
use Rattle.result_forms.proofs.ShownLaws.{pair_written, properties_read, text_of_none, text_of_some, variant_of_some}

-- ---- spans

abbrev pub span_kind : Kind ℕ
span_kind = text_kind span_fault IsSpanText (λ span. span ≤ most_span) span_text

span_there : (d : Data) → a_text span_fault d ≡ None → (n : ℕ) × IsText IsSpanText d n
span_there d h =
    text_there span_fault IsSpanText (λ s none. let there = span_of_text s (unrefused s (span_fault s) refl none) in (there.0, there.1)) d h

pub span_lawful : IsLawfulKind span_kind
span_lawful = text_lawful span_fault IsSpanText _ span_text span_empty span_one span_there span_form span_spelled

-- ---- texts, which are left out where they are empty

abbrev pub utf8_kind : (List ℕ → Option Why) → Kind (List ℕ)
utf8_kind why = record {
  fault = a_string why;
  means = IsUtf8Text;
  empty = never_empty;
  blank = λ text. false;
  OfForm = λ text. IsUtf8 text × (why text ≡ None);
  json = λ text. string text;
  levels = 0;
}

utf8_there : (why : List ℕ → Option Why) → IsThere (a_string why) IsUtf8Text
utf8_there why d is none =
    by_string why (λ e. IsReadValue e → (text : List ℕ) × IsUtf8Text e text) (λ s fine utf8. (s, (refl, utf8))) d none is

pub utf8_lawful : (why : List ℕ → Option Why) → IsLawfulKind (utf8_kind why)
utf8_lawful why = record {
  one = utf8_one;
  there = utf8_there why;
  formed = limited_form why;
  told = λ d text none is. refl;
  again = λ text is. record { is_set = refl; no_fault = rw (is.1) refl; meant = (refl, is.0); emptiness = refl };
  plain = λ text. plain_text 0 text;
}

text_or_none : (text : List ℕ) → IsUtf8 text → ((text_shown text ≡ None) × (text ≡ [])) ⊎ (text_shown text ≡ Some (string text))
text_or_none [] is = inl (text_of_none, refl)
text_or_none (b ∷ bs) is = inr (text_of_some b bs is)

abbrev pub text_field : NameForm → (List ℕ → Option Why) → Fields (List ℕ)
text_field n why = default_field n (utf8_kind why) [] text_shown

pub text_field_lawful : (n : NameForm) (why : List ℕ → Option Why) → why [] ≡ None → AreLawful (text_field n why)
text_field_lawful n why empty =
    default_lawful n (utf8_kind why) (utf8_lawful why) [] text_shown (IsUtf8-nil, empty) (λ text is. text_or_none text is.0) (text_plain 0)

-- ---- flags

abbrev pub flag_kind : Kind Bool
flag_kind = record {
  fault = a_flag;
  means = IsFlag;
  empty = never_empty;
  blank = λ on. false;
  OfForm = λ on. ⊤;
  json = λ on. boolean on;
  levels = 0;
}

flag_there : IsThere a_flag IsFlag
flag_there null is h = absurd cc
flag_there (boolean b) is h = (b, refl)
flag_there (number n) is h = absurd cc
flag_there (string s) is h = absurd cc
flag_there (array ds) is h = absurd cc
flag_there (object ms) is h = absurd cc

flag_lawful : IsLawfulKind flag_kind
flag_lawful = record {
  one = flag_one;
  there = flag_there;
  formed = λ d on none is. tt;
  told = λ d on none is. refl;
  again = λ on is. record { is_set = refl; no_fault = refl; meant = refl; emptiness = refl };
  plain = λ on. record { no_float = refl; deep = omega arith };
}

flag_or_none : (on : Bool) → ((flag_shown on ≡ None) × (on ≡ false)) ⊎ (flag_shown on ≡ Some (boolean on))
flag_or_none false = inl (refl, refl)
flag_or_none true = inr refl

abbrev pub flag_field : NameForm → Fields Bool
flag_field n = default_field n flag_kind false flag_shown

pub flag_field_lawful : (n : NameForm) → AreLawful (flag_field n)
flag_field_lawful n = default_lawful n flag_kind flag_lawful false flag_shown tt (λ on is. flag_or_none on) (flag_plain 0)

-- ---- statuses

known : (s : List ℕ) (o : Option Status) → status_of s ≡ o → unless_known o ≡ None → (x : Status) × (status_of s ≡ Some x)
known s None e h = absurd cc
known s (Some x) e h = (x, e)

status_there : IsThere a_status IsStatus
status_there null is h = absurd cc
status_there (boolean b) is h = absurd cc
status_there (number n) is h = absurd cc
status_there (string s) is h = known s (status_of s) refl h
status_there (array ds) is h = absurd cc
status_there (object ms) is h = absurd cc

unspecified : (s : List ℕ) (x : Status) (t : Bool) → bytes_eq s (codes "STATUS_UNSPECIFIED") ≡ t → status_of s ≡ Some x → t ≡ false
unspecified s x true e is =
    let same : s ≡ codes "STATUS_UNSPECIFIED" = (bytes_eq-Decides s (codes "STATUS_UNSPECIFIED")).0 e in
    let none : status_of (codes "STATUS_UNSPECIFIED") ≡ Some x = subst (λ (text : List ℕ). status_of text ≡ Some x) same is in
    absurd cc
unspecified s x false e is = refl

some_bytes : (b : ℕ) (bs : List ℕ) (t : Bool) → t ≡ false → (length (b ∷ bs) == 0 || t) ≡ false
some_bytes b bs t e = grind (arith, e)

status_told : (d : Data) (x : Status) → IsStatus d x → no_status d ≡ false
status_told null x is = absurd is
status_told (boolean b) x is = absurd is
status_told (number n) x is = absurd is
status_told (string []) x is = absurd cc
status_told (string (b ∷ bs)) x is =
    let other = unspecified (b ∷ bs) x (bytes_eq (b ∷ bs) (codes "STATUS_UNSPECIFIED")) refl is in
    some_bytes b bs (bytes_eq (b ∷ bs) (codes "STATUS_UNSPECIFIED")) other
status_told (array ds) x is = absurd is
status_told (object ms) x is = absurd is

abbrev pub status_kind : Kind Status
status_kind = record {
  fault = a_status;
  means = IsStatus;
  empty = no_status;
  blank = λ x. false;
  OfForm = λ x. ⊤;
  json = λ x. string (status_name x);
  levels = 0;
}

status_again : (x : Status) → IsWritten a_status IsStatus no_status (λ _. false) x (string (status_name x))
status_again Pass = record { is_set = refl; no_fault = refl; meant = refl; emptiness = refl }
status_again Fail = record { is_set = refl; no_fault = refl; meant = refl; emptiness = refl }
status_again Crash = record { is_set = refl; no_fault = refl; meant = refl; emptiness = refl }
status_again Abort = record { is_set = refl; no_fault = refl; meant = refl; emptiness = refl }
status_again Skip = record { is_set = refl; no_fault = refl; meant = refl; emptiness = refl }

pub status_lawful : IsLawfulKind status_kind
status_lawful = record {
  one = status_one;
  there = status_there;
  formed = λ d x none is. tt;
  told = λ d x none is. status_told d x is;
  again = λ x is. status_again x;
  plain = λ x. plain_text 0 (status_name x);
}

-- ---- tags

pub tags_lawful : IsLawfulKind (tag_kind pair_data)
tags_lawful = tag_lawful pair_data pair_written (λ tag. plain_tag (pair_shown tag))

-- ---- variants

def_plain : (ps : List Pair) → ArePlain 0 (def_members ps)
def_plain [] = record { no_float = refl; deep = omega arith }
def_plain (p ∷ ps) = let rest = def_plain ps in record { no_float = rest.no_float; deep = omega (arith, rest.deep) }

data_plain : (ps : List Pair) → IsPlain 2 (variant_data ps)
data_plain [] = record { no_float = refl; deep = omega arith }
data_plain (p ∷ ps) =
    let rest = def_plain ps in
    record { no_float = rw (rest.no_float) refl; deep = omega (arith, rest.deep) }

abbrev pub variant_kind : Kind (List Pair)
variant_kind = record {
  fault = a_variant;
  means = IsVariant;
  empty = never_empty;
  blank = λ v. false;
  OfForm = λ v. IsAscending v × AreOfGrammar v;
  json = variant_data;
  levels = 64;
}

variant_lawful : IsLawfulKind variant_kind
variant_lawful = record {
  one = variant_one;
  there = variant_there;
  formed = variant_form;
  told = λ d v none is. refl;
  again = λ v is. variant_written v is.0 is.1;
  plain = λ v. let few = data_plain v in record { no_float = few.no_float; deep = omega (arith, few.deep) };
}

variant_or_none : (v : List Pair) → IsAscending v × AreOfGrammar v → ((variant_shown v ≡ None) × (v ≡ [])) ⊎ (variant_shown v ≡ Some (variant_data v))
variant_or_none [] is = inl (refl, refl)
variant_or_none (p ∷ ps) is = inr (variant_of_some p ps is.0 is.1)

abbrev pub variant_field : NameForm → Fields (List Pair)
variant_field n = default_field n variant_kind [] variant_shown

pub variant_field_lawful : (n : NameForm) → AreLawful (variant_field n)
variant_field_lawful n = default_lawful n variant_kind variant_lawful [] variant_shown variant_empty variant_or_none variant_plain

-- ---- reasons of a failure

abbrev reason_fields : Fields (List ℕ)
reason_fields = last (default_field name.primary_error_message (utf8_kind message_why) [] (λ text. Some (string text)))

reason_are : AreLawful reason_fields
reason_are = last_lawful _
    (default_lawful name.primary_error_message (utf8_kind message_why) (utf8_lawful message_why) [] (λ text. Some (string text)) message_empty
    (λ text is. inr refl) (λ text. plain_text 0 text))

abbrev pub reason_form : RequestForm (List ℕ)
reason_form = record { fault = a_reason; means = IsReason; json = λ text. reason_of (string text); OfForm = IsMessage; CanBeAsked = IsMessage }

reason_made : IsMadeOf reason_form reason_fields
unfolding a_reason
reason_made = record {
  made = λ text. text;
  parts = λ text. text;
  held = λ text. refl;
  whole = λ d text is. refl;
  faults = λ d. refl;
  told = λ d text is. is;
  said = λ d text of is. is;
  in_form = λ text of. of;
  of_form = λ text of. of;
  members = λ text. refl;
  apart = refl;
}

abbrev pub reason_kind : Kind (List ℕ)
reason_kind = object_kind reason_form reason_fields

reason_lawful : IsLawfulKind reason_kind
reason_lawful = object_lawful reason_form reason_fields reason_made reason_are

reason_or_none : (text : List ℕ) → IsUtf8 text → ((reason_shown text ≡ None) × (text ≡ [])) ⊎ (reason_shown text ≡ Some (reason_of (string text)))
reason_or_none [] is = inl (ap (option_map reason_of) text_of_none, refl)
reason_or_none (b ∷ bs) is = inr (ap (option_map reason_of) (text_of_some b bs is))

abbrev pub message_field : NameForm → Fields (List ℕ)
message_field n = default_field n reason_kind [] reason_shown

pub message_field_lawful : (n : NameForm) → AreLawful (message_field n)
message_field_lawful n =
    default_lawful n reason_kind reason_lawful [] reason_shown message_empty (λ text is. reason_or_none text is.0) (λ text. reason_plain (text_shown text) (text_plain 0 text))

-- ---- properties

properties_there : IsThere a_properties IsPropertiesOf
properties_there d is h =
    let plain = right_plain d h in (
      compact_text d,
      record {
        compact = refl;
        kept = record { value = d; reads = compact_read d is plain.no_float (omega (arith, plain.deep)); right = h; compact = refl };
        utf8 = compact_utf8 d is plain.no_float;
      },
    )

abbrev pub properties_field : NameForm → Fields (List ℕ)
properties_field n = record {
  names = n ∷ [];
  fault = optional_filled n empty_object a_properties;
  means = λ d. HoldsOr IsPropertiesOf [] (filled_at n empty_object d);
  OfForm = IsPropertiesText;
  members = λ text. (n, properties_shown text) ∷ [];
  levels = 64;
}

pub properties_field_lawful : (n : NameForm) → AreLawful (properties_field n)
properties_field_lawful n = record {
  one = λ d a b h k. or_one IsPropertiesOf [] properties_one (filled_at n empty_object d) a b h k;
  there = λ d is none. there_or_filled a_properties IsPropertiesOf properties_there n empty_object [] d is none;
  formed = properties_form n;
  named = λ text. refl;
  again = λ text d is at. properties_read n d text at.0 is;
  plain = λ text. (properties_plain text, tt);
}
