-- The values that are written of a row are read again.
use Rattle.std.proofs.Common.{◌≡◌, ◌≤◌, ◌<◌, ◌+◌, ◌==◌, ℕ, zero, suc, Bool, true, false, List, [], ◌∷◌, length, take, get_or, Some, None, option_and_then, refl, sym, ap, subst, ◌∙◌, arith, ⊎_elim}
use Rattle.std.specs.Prelude.{fold, codes}
use Rattle.std.specs.Str.{IsUtf8, is_utf8}
use Rattle.std.proofs.lemmas.Str.{IsUtf8-nil, IsUtf8-from_is_utf8, is_utf8-from_IsUtf8}
use Rattle.std.proofs.lemmas.List.{nil_from_length, take_all}
use Rattle.std.proofs.lemmas.Bool.{eqb-true}
use Rattle.std.proofs.lemmas.List.Sums.{fold_more}
use Rattle.serde_json.specs.Data.{Data, null, boolean, number, string, array, object, Members, no_members, member, put}
use Rattle.serde_json.specs.Read.{read}
use Rattle.serde_json.proofs.OnLiterals.{serde_json_on_literals}
use Rattle.name_parts.specs.declared.parts.PartForm.TheVariants.{PairKey}
use Rattle.name_parts.proofs.PartLemmas.{IsPart-utf8, IsPart-part_fault}
use Rattle.names_realms.specs.declared.pairs.Pair.{Pair}
use Rattle.names_realms.specs.Variants.{IsAscending}
use Rattle.json_fields.specs.Names.{NameForm}
use Rattle.json_fields.specs.Fields.{required, optional, filled_at, set_at, Holds, HoldsMaybe}
use Rattle.json_fields.specs.Fields as field
use Rattle.json_fields.specs.Kinds.{never_empty}
use Rattle.field_kinds.specs.PairKinds.Tags.{a_tag, IsTag, IsPairOfGrammar, tag_data}
use Rattle.json_fields.specs.Writing.{IsWritten}
use Rattle.field_kinds.proofs.TextKinds.TagTextLaws.{value_right}
use Rattle.field_kinds.proofs.PairKinds.TagLaws.{tag_written}
use Rattle.field_kinds.specs.Defaults.{HoldsOr}
use Rattle.field_kinds.specs.Filled.{optional_filled}
use Rattle.field_kinds.specs.Properties.{a_properties, empty_object, IsCompact, IsKept}
use Rattle.field_kinds.specs.Variants.{AreOfGrammar, IsPairOfGrammar as OfGrammar, def_members, variant_data}
use Rattle.field_kinds.proofs.VariantLaws.{put_after, grammar_at}
use Rattle.result_forms.specs.Fields.{IsPropertiesOf, IsPropertiesText}
use Rattle.result_forms.specs.Shown.{as_text, text_shown, pair_shown, pair_data, put_pair, variant_shown, right_object, properties_shown}
use Rattle.result_forms.proofs.FieldLaws.{empty_default, filled_other}

-- ---- texts

pub as_text-utf8 : (bytes : List ℕ) → IsUtf8 bytes → as_text bytes ≡ bytes
as_text-utf8 bytes is = rw (is_utf8-from_IsUtf8 bytes is) refl

other_text : (bytes : List ℕ) (b : Bool) → is_utf8 bytes ≡ b → (IsUtf8 bytes → ⊥) → as_text bytes ≡ []
other_text bytes true e ill = absurd (ill (IsUtf8-from_is_utf8 bytes e))
other_text bytes false e ill = rw e refl

pub as_text-other : (bytes : List ℕ) → (IsUtf8 bytes → ⊥) → as_text bytes ≡ []
as_text-other bytes ill = other_text bytes (is_utf8 bytes) refl ill

pub text_of_some : (b : ℕ) (bs : List ℕ) → IsUtf8 (b ∷ bs) → text_shown (b ∷ bs) ≡ Some (string (b ∷ bs))
text_of_some b bs is = rw (as_text-utf8 (b ∷ bs) is) refl

pub text_of_none : text_shown [] ≡ None
text_of_none = rw (as_text-utf8 [] IsUtf8-nil) refl

-- ---- tags

pair_same : (p : Pair) → IsPairOfGrammar p → pair_shown p ≡ p
pair_same p is =
    let key : as_text p.key ≡ p.key = as_text-utf8 p.key (IsPart-utf8 PairKey p.key is.0) in
    let value : as_text p.value ≡ p.value = as_text-utf8 p.value is.1.0 in
    λ i. record { key = key i; value = value i }

pub pair_written : (p : Pair) → IsPairOfGrammar p → IsWritten a_tag IsTag never_empty (λ _. false) p (pair_data p)
pair_written p is =
    subst (λ (q : Pair). IsWritten a_tag IsTag never_empty (λ _. false) p (tag_data q)) (sym (pair_same p is))
    (tag_written p.key p.value (IsPart-part_fault PairKey p.key is.0) (value_right p.value is.1))

-- ---- variants

put_same : (ms : Members) (p : Pair) → OfGrammar p → put_pair ms p ≡ put p.key (string p.value) ms
put_same ms p is =
    let key : as_text p.key ≡ p.key = as_text-utf8 p.key (IsPart-utf8 PairKey p.key is.0) in
    let value : as_text p.value ≡ p.value = as_text-utf8 p.value is.1.0 in
    rw (key, value) refl

folded : (ps : List Pair) (d : Pair) → IsAscending ps → AreOfGrammar ps → (i : ℕ) → i ≤ length ps
    → fold put_pair no_members (take i ps) ≡ def_members (take i ps)
folded ps d rises all zero h = refl
folded ps d rises all (suc i) h =
    let less : i < length ps = omega (arith, h) in
    let next : suc i ≡ i + 1 = omega arith in
    let more : fold put_pair no_members (take (i + 1) ps) ≡ put_pair (fold put_pair no_members (take i ps)) (get_or ps i d) = fold_more put_pair no_members ps i d less in
    rw next
    (more ∙ ap (λ (ms : Members). put_pair ms (get_or ps i d)) (folded ps d rises all i (omega (arith, h)))
    ∙ put_same (def_members (take i ps)) (get_or ps i d) (grammar_at ps i d all less) ∙ put_after ps i d rises less)

folded_all : (p : Pair) (ps : List Pair) → IsAscending (p ∷ ps) → AreOfGrammar (p ∷ ps) → fold put_pair no_members (p ∷ ps) ≡ def_members (p ∷ ps)
folded_all p ps rises all =
    let whole : take (length (p ∷ ps)) (p ∷ ps) ≡ p ∷ ps = take_all (length (p ∷ ps)) (p ∷ ps) (omega arith) in
    let done : fold put_pair no_members (take (length (p ∷ ps)) (p ∷ ps)) ≡ def_members (take (length (p ∷ ps)) (p ∷ ps)) = folded (p ∷ ps) p rises all (length (p ∷ ps)) (omega arith) in
    subst (λ (qs : List Pair). fold put_pair no_members qs ≡ def_members qs) whole done

pub variant_of_some : (p : Pair) (ps : List Pair) → IsAscending (p ∷ ps) → AreOfGrammar (p ∷ ps) → variant_shown (p ∷ ps) ≡ Some (variant_data (p ∷ ps))
variant_of_some p ps rises all = rw (folded_all p ps rises all) refl

-- ---- properties

read_nothing : read [] ≡ None
unfolding serde_json_on_literals
read_nothing = refl

properties_of_none : properties_shown [] ≡ None
properties_of_none = rw (as_text-utf8 [] IsUtf8-nil, read_nothing) refl

-- a text without bytes is of no properties
pub empty_shows_none : (text : List ℕ) → (length text == 0) ≡ true → None ≡ properties_shown text
empty_shows_none text empty = sym (ap properties_shown (nil_from_length text (eqb-true (length text) 0 empty)) ∙ properties_of_none)

braces : (v : Data) (text : List ℕ) → empty_object v ≡ true → IsCompact v text → text ≡ codes "{}"
braces null text e is = absurd cc
braces (boolean b) text e is = absurd cc
braces (number x) text e is = absurd cc
braces (string s) text e is = absurd cc
braces (array ds) text e is = absurd cc
braces (object no_members) text e is = is
braces (object (member k v ms)) text e is = absurd cc

not_true : (b : Bool) → (b ≡ true → ⊥) → b ≡ false
not_true true h = absurd (h refl)
not_true false h = refl

right_is : (v : Data) → a_properties v ≡ None → empty_object v ≡ false → right_object v ≡ Some v
right_is v none e = rw (none, e) refl

is_set : (v : Data) → a_properties v ≡ None → field.set v ≡ Some v
is_set null none = absurd cc
is_set (boolean b) none = refl
is_set (number x) none = refl
is_set (string s) none = refl
is_set (array ds) none = refl
is_set (object ms) none = refl

kept_read : (n : NameForm) (d : Data) (text : List ℕ) → field.member n d ≡ properties_shown text → (k : IsKept text) → IsUtf8 text → (text ≡ codes "{}" → ⊥)
    → (optional_filled n empty_object a_properties d ≡ None) × HoldsOr IsPropertiesOf [] (filled_at n empty_object d) text
kept_read n d text there k utf8 some =
    let e : empty_object k.value ≡ false = not_true (empty_object k.value) (λ t. some (braces k.value text t k.compact)) in
    let shown : properties_shown text ≡ Some k.value =
    ap (λ (bs : List ℕ). option_and_then right_object (read bs)) (as_text-utf8 text utf8) ∙ ap (option_and_then right_object) k.reads ∙ right_is k.value k.right e in
    filled_other n d a_properties IsPropertiesOf empty_object [] text k.value (there ∙ shown) (is_set k.value k.right) e k.right
    (record { compact = k.compact; kept = k; utf8 = utf8 })

nothing_read : (n : NameForm) (d : Data) (text : List ℕ) → field.member n d ≡ properties_shown text → text ≡ []
    → (optional_filled n empty_object a_properties d ≡ None) × HoldsOr IsPropertiesOf [] (filled_at n empty_object d) text
nothing_read n d text there same =
    empty_default n d a_properties IsPropertiesOf empty_object [] text (there ∙ ap properties_shown same ∙ properties_of_none) same

pub properties_read : (n : NameForm) (d : Data) (text : List ℕ) → field.member n d ≡ properties_shown text → IsPropertiesText text
    → (optional_filled n empty_object a_properties d ≡ None) × HoldsOr IsPropertiesOf [] (filled_at n empty_object d) text
properties_read n d text there is = ⊎_elim (nothing_read n d text there) (λ kept. kept_read n d text there kept.0 kept.1 kept.2) is
