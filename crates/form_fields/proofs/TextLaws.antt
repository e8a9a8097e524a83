-- What is so of texts is so of values that mean something as a text, or have no fault as one.
use Rattle.std.proofs.Common.{◌≡◌, ◌==◌, ℕ, false, List, [], ◌∷◌, length, Option, Some, None, refl, arith}
use Rattle.std.specs.Str.{IsUtf8}
use Rattle.serde_json.specs.Data.{Data, null, boolean, number, string, array, object}
use Rattle.json_fields.specs.Kinds.{empty_text}
use Rattle.json_fields.specs.Texts.{bad_value, IsText}
use Rattle.json_fields.specs.declared.whys.Why.{Why}
use Rattle.json_fields.proofs.MeaningLaws.{text_one}
use Rattle.json_fields.proofs.PlainLaws.{plain_text}
use Rattle.field_kinds.specs.TextKinds.Texts.{a_string}
use Rattle.field_kinds.proofs.ReadValues.{IsReadValue}
use Rattle.form_fields.specs.Kinds.{string_kind}
use Rattle.form_fields.specs.Laws.{IsLawfulKind}

pub unbad : (o : Option Why) → bad_value o ≡ None → o ≡ None
unbad None e = refl
unbad (Some why) e = absurd cc

pub by_text : {A : Type 0} (spells : List ℕ → A → Type 0) (P : Data → A → Type 0) → ((s : List ℕ) (a : A) → spells s a → P (string s) a)
    → (d : Data) (a : A) → IsText spells d a → P d a
by_text spells P law null a is = absurd is
by_text spells P law (boolean b) a is = absurd is
by_text spells P law (number n) a is = absurd is
by_text spells P law (string s) a is = law s a is
by_text spells P law (array ds) a is = absurd is
by_text spells P law (object ms) a is = absurd is

pub by_string : (why : List ℕ → Option Why) (P : Data → Type 0) → ((s : List ℕ) → why s ≡ None → P (string s)) → (d : Data) → a_string why d ≡ None → P d
by_string why P law null h = absurd cc
by_string why P law (boolean b) h = absurd cc
by_string why P law (number n) h = absurd cc
by_string why P law (string s) h = law s (unbad (why s) h)
by_string why P law (array ds) h = absurd cc
by_string why P law (object ms) h = absurd cc

-- ---- texts that are refused for a reason, and else spell a value

filled : {A : Type 0} (spells : List ℕ → A → Type 0) → ((a : A) → spells [] a → ⊥) → (s : List ℕ) (a : A) → spells s a → empty_text (string s) ≡ false
filled spells none [] a is = absurd (none a is)
filled spells none (b ∷ bs) a is = grind arith

-- no value has the empty text, and a text spells one value, which has that text
pub string_lawful : {A : Type 0} (why : List ℕ → Option Why) (spells : List ℕ → A → Type 0) (OfForm : A → Type 0) (spelling : A → List ℕ)
    → ((a : A) → spells [] a → ⊥) → ((s : List ℕ) (a b : A) → spells s a → spells s b → a ≡ b)
    → ((s : List ℕ) → IsUtf8 s → why s ≡ None → (a : A) × spells s a) → ((s : List ℕ) (a : A) → spells s a → OfForm a)
    → ((a : A) → OfForm a → (why (spelling a) ≡ None) × spells (spelling a) a) → IsLawfulKind (string_kind why spells OfForm spelling)
string_lawful {A} why spells OfForm spelling none one there formed right = record {
  one = text_one spells one;
  there = λ d is no. by_string why (λ e. IsReadValue e → (a : A) × IsText spells e a) (λ s fine utf8. there s utf8 fine) d no is;
  formed = λ d a no is. by_text spells (λ e x. OfForm x) formed d a is;
  told = λ d a no is. by_text spells (λ e x. empty_text e ≡ false) (filled spells none) d a is;
  again = λ a is.
      let read = right a is in
      record { is_set = refl; no_fault = rw (read.0) refl; meant = read.1; emptiness = filled spells none (spelling a) a read.1 };
  plain = λ a. plain_text 0 (spelling a);
}
