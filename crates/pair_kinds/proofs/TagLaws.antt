-- Tags: what one means, that it is of the grammar, and that what is written of it is read again.
use Rattle.std.proofs.Common.{◌≡◌, ℕ, ◌==◌, Bool, true, false, List, [], ◌∷◌, length, None, refl, ◌∙◌, arith}
use Rattle.serde_json.specs.Data.{Data, string, object, Members, no_members, put}
use Rattle.pair_kinds.specs.NameParts.declared.parts.PartForm.TheVariants.{PairKey}
use Rattle.pair_kinds.specs.NamesRealms.declared.pairs.Pair.{Pair}
use Rattle.pair_kinds.specs.NamesRealms.Pairs.{pair_value_fault}
use Rattle.pair_kinds.specs.JsonFields.Names.{NameForm}
use Rattle.pair_kinds.specs.JsonFields.Fields.{member, or_empty, set_at, text_at}
use Rattle.pair_kinds.specs.JsonFields.Kinds.{never_empty}
use Rattle.pair_kinds.specs.JsonFields.Texts.{a_text}
use Rattle.pair_kinds.specs.JsonFields.Writing.{IsWritten}
use Rattle.pair_kinds.proofs.JsonFields.FormLaws.{part_form, GivesForm}
use Rattle.pair_kinds.proofs.JsonFields.MeaningLaws.{first_left, first_right, or_empty_none, same_one, same_there}
use Rattle.pair_kinds.proofs.JsonFields.PlainLaws.{no_members_plain, plain-put, plain_text, ArePlain, IsPlain}
use Rattle.pair_kinds.proofs.JsonFields.WriteLaws.{member_other, member_put}
use Rattle.text_kinds.specs.TagTexts.{key_fault}
use Rattle.text_kinds.proofs.TagTextLaws.{value_form}
use Rattle.pair_kinds.specs.Tags.{a_tag, key_name, put_filled, tag_data, value_name, IsPairOfGrammar, IsTag}

-- ---- what is read

pub tag_one : (d : Data) (a b : Pair) → IsTag d a → IsTag d b → a ≡ b
tag_one d a b h k =
    let key : a.key ≡ b.key = same_one (text_at key_name d) a.key b.key h.key k.key in
    let value : a.value ≡ b.value = same_one (text_at value_name d) a.value b.value h.value k.value in
    λ i. record { key = key i; value = value i }

pub tag_there : (d : Data) → a_tag d ≡ None → (tag : Pair) × IsTag d tag
unfolding a_tag
tag_there d h =
    let rest = first_right _ _ h in
    let key = same_there key_fault (text_at key_name d) (or_empty_none key_name (a_text key_fault) d (first_left _ _ rest)) in
    let value = same_there pair_value_fault (text_at value_name d) (or_empty_none value_name (a_text pair_value_fault) d (first_left _ _ (first_right _ _ rest))) in
    (record { key = key.0; value = value.0 }, record { key = key.1; value = value.1 })

-- a tag is a pair of the grammar
pub tag_form : GivesForm a_tag IsTag IsPairOfGrammar
unfolding a_tag
tag_form d tag none is =
    let rest = first_right _ _ none in
    let key = or_empty_none key_name (a_text key_fault) d (first_left _ _ rest) in
    let value = or_empty_none value_name (a_text pair_value_fault) d (first_left _ _ (first_right _ _ rest)) in
    (part_form PairKey (text_at key_name d) tag.key key is.key, value_form (text_at value_name d) tag.value value is.value)

-- ---- what is written

text_put : (n : NameForm) (text : List ℕ) (ms : Members) → text_at n (object (put n.camel (string text) ms)) ≡ string text
unfolding text_at set_at
text_put n text ms = rw (member_put n (string text) ms) refl

text_same : (n : NameForm) (d e : Data) → member n d ≡ member n e → text_at n d ≡ text_at n e
unfolding text_at set_at
text_same n d e h = rw h refl

text_none : (n : NameForm) → text_at n (object no_members) ≡ string []
unfolding text_at set_at
text_none n = refl

text_filled : (n : NameForm) (text : List ℕ) → text_at n (object (put_filled n text no_members)) ≡ string text
text_filled n [] = text_none n
text_filled n (b ∷ bs) =
    let some : (length (b ∷ bs) == 0) ≡ false = grind arith in
    rw some (text_put n (b ∷ bs) no_members)

pub tag_written : (key value : List ℕ) → key_fault key ≡ None → pair_value_fault value ≡ None
    → IsWritten a_tag IsTag never_empty (λ _. false) (record { key = key; value = value }) (tag_data (record { key = key; value = value }))
unfolding or_empty a_tag
tag_written key value k v =
    let ms : Members = put_filled value_name value no_members in
    let at_key : text_at key_name (object (put key_name.camel (string key) ms)) ≡ string key = text_put key_name key ms in
    let at_value : text_at value_name (object (put key_name.camel (string key) ms)) ≡ string value =
    text_same value_name _ _ (member_other value_name key_name (string key) ms refl refl) ∙ text_filled value_name value in
    record {
      is_set = refl;
      no_fault = rw (at_key, k, at_value, v) refl;
      meant = record { key = rw at_key refl; value = rw at_value refl };
      emptiness = refl;
    }

-- no float, and one level
plain-put_filled : (n : ℕ) (name : NameForm) (text : List ℕ) (b : Bool) (ms : Members) → (length text == 0) ≡ b → ArePlain n ms → ArePlain n (put_filled name text ms)
plain-put_filled n name text true ms e fm = rw e fm
plain-put_filled n name text false ms e fm = rw e (plain-put n name.camel (string text) ms (plain_text n text) fm)

pub plain_tag : (tag : Pair) → IsPlain 1 (tag_data tag)
plain_tag tag =
    let value : Members = put_filled value_name tag.value no_members in
    let one = plain-put_filled 0 value_name tag.value (length tag.value == 0) no_members refl (no_members_plain 0) in
    let two = plain-put 0 key_name.camel (string tag.key) value (plain_text 0 tag.key) one in
    record { no_float = two.no_float; deep = omega (arith, two.deep) }
