-- Kinds of fields of a row: a value means one thing at most, and what it means is of its form.
use Rattle.std.proofs.Common.{◌≡◌, inl, inr, ◌≤◌, ℕ, Bool, true, false, List, [], ◌∷◌, length, Option, Some, None, refl, sym, ap, subst, ◌∙◌, arith}
use Rattle.std.specs.Prelude.{codes, option_map, All, nat_lt, if◌then◌else◌}
use Rattle.std.specs.Option.{option_or}
use Rattle.std.proofs.lemmas.Str.{IsUtf8-nil}
use Rattle.std.specs.Str.{IsUtf8}
use Rattle.std.proofs.lemmas.List.Elements.{All-cons, All-nil}
use Rattle.std.proofs.lemmas.List.Sorted.{All-permutation}
use Rattle.serde_json.specs.Data.{Data, null, boolean, number, string, array, object, Members, no_members, member}
use Rattle.serde_json.specs.Written.{compact_text}
use Rattle.name_parts.specs.declared.faults.NameFault.{NameFault}
use Rattle.name_parts.specs.declared.faults.NameFault.TheVariants as fault
use Rattle.name_parts.specs.declared.parts.PartForm.TheVariants.{PairKey}
use Rattle.name_parts.specs.Parts.{part_fault}
use Rattle.name_parts.proofs.PartLemmas.{part_fault-None}
use Rattle.moments_spans.specs.Spans.{most_span}
use Rattle.moments_spans.specs.SpanGrammar.{IsSpanText, IsSpanFault, empty as no_text, bad, outside}
use Rattle.moments_spans.proofs.SaidLaws.{one_span_said}
use Rattle.names_realms.specs.declared.pairs.Pair.{Pair}
use Rattle.names_realms.specs.declared.states.Status.{Status}
use Rattle.names_realms.specs.declared.pairs.PairFault.TheVariants.{Key, Value}
use Rattle.names_realms.specs.Pairs.{pair_fault, pair_value_fault, utf8_place}
use Rattle.names_realms.specs.Variants.{IsAscending}
use Rattle.json_fields.specs.Names.{NameForm}
use Rattle.json_fields.specs.Faults.{here}
use Rattle.json_fields.specs.declared.faults.FaultKind.TheVariants.{WrongKind}
use Rattle.json_fields.specs.Fields.{optional, set_at, fault_optional, filled_at}
use Rattle.json_fields.specs.Kinds.{an_object}
use Rattle.json_fields.specs.Texts.{a_text, refused, span_fault, IsSame, IsText}
use Rattle.json_fields.specs.declared.names.Step.TheVariants.{Member}
use Rattle.json_fields.specs.declared.whys.Why.{Why}
use Rattle.json_fields.proofs.FormLaws.{GivesForm, text_form}
use Rattle.json_fields.proofs.MeaningLaws.{first_left, first_right, moved_none, text_one, same_one}
use Rattle.json_fields.proofs.NameLaws.{part_refused, limited_refused}
use Rattle.json_fields.proofs.TextLaws.{span_of_text, span_fault-is}
use Rattle.field_kinds.proofs.TextKinds.TagTextLaws.{value_good}
use Rattle.field_kinds.specs.TextKinds.Texts.{a_string}
use Rattle.field_kinds.specs.TextKinds.Statuses.{IsStatus}
use Rattle.field_kinds.specs.Defaults.{HoldsOr}
use Rattle.field_kinds.specs.Filled.{optional_filled}
use Rattle.field_kinds.specs.Flags.{IsFlag}
use Rattle.field_kinds.specs.Properties.{a_properties, empty_object}
use Rattle.field_kinds.specs.Variants.{def_name, all_texts, pairs_of, told, pairs_fault, a_def, pairs_in, pairs_at, a_variant, IsVariant, IsPairOfGrammar, AreOfGrammar}
use Rattle.form_fields.proofs.FieldLaws.{is_filled}
use Rattle.form_fields.proofs.TextLaws.{by_text, unbad}
use Rattle.result_forms.specs.Fields.{IsUtf8Text, IsMessage, IsPropertiesOf, IsPropertiesText}

some_same : {A : Type 0} (a b : A) → Some a ≡ Some b → a ≡ b
some_same a b e = cc

-- ---- one thing at most

pub or_one : {A : Type 0} (means : Data → A → Type 0) (default : A) → ((d : Data) (a b : A) → means d a → means d b → a ≡ b)
    → (o : Option Data) (a b : A) → HoldsOr means default o a → HoldsOr means default o b → a ≡ b
or_one means default law None a b h k = h ∙ sym k
or_one means default law (Some d) a b h k = law d a b h k

pub flag_one : (d : Data) (a b : Bool) → IsFlag d a → IsFlag d b → a ≡ b
flag_one d a b h k = let same : boolean a ≡ boolean b = sym h ∙ k in cc

pub status_one : (d : Data) (a b : Status) → IsStatus d a → IsStatus d b → a ≡ b
status_one null a b h k = absurd h
status_one (boolean t) a b h k = absurd h
status_one (number n) a b h k = absurd h
status_one (string s) a b h k = some_same a b (sym h ∙ k)
status_one (array ds) a b h k = absurd h
status_one (object ms) a b h k = absurd h

pub utf8_one : (d : Data) (a b : List ℕ) → IsUtf8Text d a → IsUtf8Text d b → a ≡ b
utf8_one d a b h k = same_one d a b h.0 k.0

pub span_one : (d : Data) (a b : ℕ) → IsText IsSpanText d a → IsText IsSpanText d b → a ≡ b
span_one d a b h k = text_one IsSpanText one_span_said d a b h k

pub properties_one : (d : Data) (a b : List ℕ) → IsPropertiesOf d a → IsPropertiesOf d b → a ≡ b
properties_one d a b h k = h.compact ∙ sym (k.compact)

-- ---- of its form

pub limited_form : (why : List ℕ → Option Why) → GivesForm (a_string why) IsUtf8Text (λ text. IsUtf8 text × (why text ≡ None))
limited_form why d text none is =
    by_text IsSame (λ e t. a_string why e ≡ None → IsUtf8 t → IsUtf8 t × (why t ≡ None))
    (λ s t same fine utf8. (utf8, subst (λ (x : List ℕ). why x ≡ None) (sym same) (unbad (why s) fine))) d text is.0 none is.1

pub message_empty : IsMessage []
message_empty = (IsUtf8-nil, refl)

-- a span's text is never refused for want of memory
no_memory : (s : List ℕ) → IsSpanFault s fault.Memory → ⊥
no_memory s (no_text e f) = absurd cc
no_memory s (bad some place first f) = absurd cc
no_memory s (outside micros said over f) = absurd cc

pub unrefused : (s : List ℕ) (o : Option NameFault) → span_fault s ≡ o → refused o ≡ None → o ≡ None
unrefused s None e h = refl
unrefused s (Some fault.Empty) e h = absurd cc
unrefused s (Some (fault.TooLong n)) e h = absurd cc
unrefused s (Some (fault.BadByte n)) e h = absurd cc
unrefused s (Some (fault.NotCanonical n)) e h = absurd cc
unrefused s (Some fault.OutOfRange) e h = absurd cc
unrefused s (Some fault.Memory) e h = absurd (no_memory s (span_fault-is s fault.Memory e))

said_short : (s : List ℕ) (n : ℕ) → refused (span_fault s) ≡ None → IsSpanText s n → n ≤ most_span
said_short s n none said =
    let there = span_of_text s (unrefused s (span_fault s) refl none) in
    subst (λ (m : ℕ). m ≤ most_span) (one_span_said s there.0 n there.1 said) there.2

pub span_form : GivesForm (a_text span_fault) (IsText IsSpanText) (λ span. span ≤ most_span)
span_form = text_form span_fault IsSpanText (λ span. span ≤ most_span) said_short

-- ---- variants

pair_parts : (k v : Option NameFault) → (refused k ≡ None → k ≡ None) → (refused v ≡ None → v ≡ None)
    → told (option_or (option_map Key k) (option_map Value v)) ≡ None → (k ≡ None) × (v ≡ None)
pair_parts None None one two h = (refl, refl)
pair_parts None (Some f) one two h = (refl, two h)
pair_parts (Some f) v one two h = let e : Some f ≡ None = one h in absurd cc

pair_right : (p : Pair) → told (pair_fault p.key p.value) ≡ None → IsPairOfGrammar p
pair_right p h =
    let parts = pair_parts (part_fault PairKey p.key) (pair_value_fault p.value) (part_refused PairKey p.key)
    (limited_refused (length p.value) (nat_lt 256 (length p.value)) (utf8_place p.value)) h in
    (part_fault-None PairKey p.key parts.0, value_good p.value parts.1)

pairs_right : (ps : List Pair) → pairs_fault ps ≡ None → All IsPairOfGrammar ps
pairs_right [] h = All-nil IsPairOfGrammar
pairs_right (p ∷ ps) h =
    All-cons IsPairOfGrammar p ps (pair_right p (first_left (told (pair_fault p.key p.value)) (pairs_fault ps) h)) (pairs_right ps (first_right (told (pair_fault p.key p.value)) (pairs_fault ps) h))

members_right : (ms : Members) (t : Bool) → (if t then pairs_fault (pairs_of ms) else Some (here WrongKind)) ≡ None → All IsPairOfGrammar (pairs_of ms)
members_right ms true h = pairs_right (pairs_of ms) h
members_right ms false h = absurd cc

def_right : (d : Data) → a_def d ≡ None → All IsPairOfGrammar (pairs_in d)
def_right null h = absurd cc
def_right (boolean b) h = absurd cc
def_right (number n) h = absurd cc
def_right (string s) h = absurd cc
def_right (array ds) h = absurd cc
def_right (object ms) h = members_right ms (all_texts ms) h

at_def : (o : Option Data) → fault_optional def_name a_def o ≡ None → All IsPairOfGrammar (pairs_at o)
at_def None h = All-nil IsPairOfGrammar
at_def (Some d) h = def_right d (moved_none (Member def_name) (a_def d) h)

pub variant_form : GivesForm a_variant IsVariant (λ v. IsAscending v × AreOfGrammar v)
unfolding optional AreOfGrammar
variant_form d v none is =
    let def = first_left _ _ (first_right (an_object d) _ none) in
    (is.order, All-permutation IsPairOfGrammar (pairs_at (set_at def_name d)) v is.pairs (at_def (set_at def_name d) def))

pub variant_empty : IsAscending [] × AreOfGrammar []
unfolding AreOfGrammar
variant_empty = (tt, All-nil IsPairOfGrammar)

-- ---- properties

abbrev second : List ℕ → ℕ
second [] = 0
second (b ∷ []) = 0
second (b ∷ c ∷ bs) = c

quote_or_brace : (rest : List ℕ) → 123 ∷ 34 ∷ rest ≡ 123 ∷ 125 ∷ [] → ⊥
quote_or_brace rest h = let same : 34 ≡ 125 = ap second h in absurd (omega (arith, same))

braced : (d : Data) → a_properties d ≡ None → empty_object d ≡ false → compact_text d ≡ codes "{}" → ⊥
braced null none e h = absurd cc
braced (boolean b) none e h = absurd cc
braced (number n) none e h = absurd cc
braced (string s) none e h = absurd cc
braced (array ds) none e h = absurd cc
braced (object no_members) none e h = absurd cc
braced (object (member k d ms)) none e h = quote_or_brace _ h

properties_of : (n : NameForm) (o : Option Data) (text : List ℕ) → ((e : Data) → o ≡ Some e → empty_object e ≡ false)
    → fault_optional n a_properties o ≡ None → HoldsOr IsPropertiesOf [] o text → IsPropertiesText text
properties_of n None text some none holds = inl holds
properties_of n (Some e) text some none holds =
    inr (holds.kept, holds.utf8, λ same. braced e (moved_none (Member n) (a_properties e) none) (some e refl) (sym (holds.compact) ∙ same))

pub properties_form : (n : NameForm) (d : Data) (text : List ℕ) → optional_filled n empty_object a_properties d ≡ None
    → HoldsOr IsPropertiesOf [] (filled_at n empty_object d) text → IsPropertiesText text
properties_form n d text none holds = properties_of n (filled_at n empty_object d) text (is_filled n empty_object d) none holds
