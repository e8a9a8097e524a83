-- Kinds of fields of artifacts, which are lawful.
use Rattle.std.proofs.Common.{◌≡◌, ◌≤◌, ◌<◌, ◌==◌, ◌⊎◌, inl, inr, nat_lt, if◌then◌else◌, ℕ, zero, suc, Bool, true, false, List, [], ◌∷◌, length, decimal}
use Rattle.std.proofs.Common.{Option, Some, None, option_map, Ok, refl, sym, ap, subst, ◌∙◌, arith}
use Rattle.std.specs.Str.{IsUtf8}
use Rattle.std.proofs.lemmas.Bool.{ltb-false}
use Rattle.std.proofs.lemmas.Option.{none-some, same_Some}
use Rattle.base64.specs.Engines.{standard}
use Rattle.base64.specs.GeneralPurpose.{encode_of, decode_of, decoded_of, IsBytes}
use Rattle.base64.proofs.EngineFacts.{decode_of-encode_of, encode_of-nil}
use Rattle.serde_json.specs.Data.{Data, null, boolean, number, unsigned, string, array, object}
use Rattle.json_fields.specs.Names.{NameForm}
use Rattle.json_fields.specs.Faults.{here}
use Rattle.json_fields.specs.Fields.{optional, set_at}
use Rattle.json_fields.specs.Kinds.{empty_text, never_empty}
use Rattle.json_fields.specs.Texts.{IsText}
use Rattle.json_fields.specs.Writing.{IsWritten}
use Rattle.json_fields.specs.declared.faults.FaultKind.TheVariants.{BadValue}
use Rattle.json_fields.specs.declared.whys.Why.{Why}
use Rattle.json_fields.specs.declared.whys.Why.TheVariants.{OutOfRange, TooLong}
use Rattle.json_fields.proofs.FormLaws.{GivesForm}
use Rattle.json_fields.proofs.MeaningLaws.{text_one}
use Rattle.json_fields.proofs.PlainLaws.{IsPlain, plain_text}
use Rattle.field_kinds.specs.TextKinds.Contents.{contents_why, contents_why_of, Encodes}
use Rattle.field_kinds.specs.TextKinds.Hashes.{hash_why}
use Rattle.field_kinds.specs.TextKinds.Texts.{a_string}
use Rattle.field_kinds.proofs.TextKinds.ContentLaws.{why_decoded, contents_written}
use Rattle.field_kinds.specs.Numbers.{Said, no_number, no_whole, below_zero, says, said, beyond, a_whole, IsSaid, most_of_bytes, most_of_page}
use Rattle.field_kinds.proofs.NumberLaws.{bytes_written, page_written}
use Rattle.field_kinds.proofs.ReadValues.{IsReadValue}
use Rattle.field_kinds.proofs.ThereLaws.{IsThere}
use Rattle.form_fields.specs.Fields.{Fields, Kind, default_field}
use Rattle.form_fields.specs.Kinds.{string_kind, unless_zero, whole_field}
use Rattle.form_fields.specs.Laws.{AreAt, AreLawful, IsLawfulKind, MayBePlain}
use Rattle.form_fields.proofs.FieldLaws.{default_lawful}
use Rattle.form_fields.proofs.TextLaws.{by_string, by_text, string_lawful, unbad}
use Rattle.form_fields.proofs.WholeLaws.{whole_field_lawful}
use Rattle.result_forms.specs.Shown.{unless_empty}
use Rattle.artifact_forms.specs.Hashes.{IsDigest, hash_text, SpellsHash}
use Rattle.artifact_forms.specs.Fields.{some_contents, IsContentsOf, AreContents, a_size, unless_0, SaysSize, IsSize}
use Rattle.artifact_forms.specs.Files.{contents_shown}
use Rattle.artifact_forms.specs.Listed.{size_shown}
use Rattle.artifact_forms.proofs.DecodedBytes.{decoded_are}
use Rattle.artifact_forms.proofs.HashLaws.{hash_one, hash_right, hash_there}

-- ---- hashes

abbrev pub hash_kind : Kind (List ℕ)
hash_kind = string_kind hash_why SpellsHash IsDigest hash_text

no_hash : (hash : List ℕ) → SpellsHash [] hash → ⊥
no_hash hash is = let none : [] ≡ hash_text hash = is.0 in absurd cc

pub hash_lawful : IsLawfulKind hash_kind
hash_lawful =
    string_lawful hash_why SpellsHash IsDigest hash_text no_hash hash_one (λ s utf8 none. hash_there s none) (λ s hash is. is.1)
    (λ hash is. (hash_right hash is, (refl, is)))

-- ---- contents, which are left out where they are empty

pub decodes : (s bytes : List ℕ) → s ≡ encode_of standard bytes → IsBytes bytes → decode_of standard s ≡ Ok bytes
decodes s bytes e are = subst (λ (t : List ℕ). decode_of standard t ≡ Ok bytes) (sym e) (decode_of-encode_of standard bytes refl are)

one_decoded : (s a b : List ℕ) → s ≡ encode_of standard a → IsBytes a → (s ≡ encode_of standard b) × IsBytes b → a ≡ b
one_decoded s a b is are other = let both : Ok a ≡ Ok b = sym (decodes s a is are) ∙ decodes s b other.0 other.1 in cc

contents_one : (d : Data) (a b : List ℕ) → IsContentsOf d a → IsContentsOf d b → a ≡ b
contents_one d a b h k =
    by_text Encodes (λ e x. IsBytes x → IsContentsOf e b → x ≡ b) (λ s x is are other. one_decoded s x b is are other) d a h.0 h.1 k

decoded_there : (s : List ℕ) (o : Option (List ℕ)) → IsUtf8 s → decoded_of standard s ≡ o → contents_why_of o ≡ None
    → (bytes : List ℕ) × IsContentsOf (string s) bytes
decoded_there s None utf8 e h = absurd cc
decoded_there s (Some bytes) utf8 e h = let are = decoded_are s bytes utf8 e in (bytes, (are.1, are.0))

contents_there : IsThere some_contents IsContentsOf
contents_there d is none =
    by_string contents_why (λ e. IsReadValue e → (bytes : List ℕ) × IsContentsOf e bytes)
    (λ s fine utf8. decoded_there s (decoded_of standard s) utf8 refl fine) d none is

not_long : (n : ℕ) (t : Bool) → nat_lt 1048576 n ≡ t → (if t then Some (TooLong n) else None) ≡ None → n ≤ 1048576
not_long n true e h = absurd cc
not_long n false e h = ltb-false 1048576 n e

few_of : (s bytes : List ℕ) → s ≡ encode_of standard bytes → some_contents (string s) ≡ None → IsBytes bytes → AreContents bytes
few_of s bytes e none are =
    (are, not_long (length bytes) (nat_lt 1048576 (length bytes)) refl (sym (why_decoded s bytes (decodes s bytes e are)) ∙ unbad (contents_why s) none))

contents_form : GivesForm some_contents IsContentsOf AreContents
contents_form d bytes none is = by_text Encodes (λ e x. some_contents e ≡ None → IsBytes x → AreContents x) few_of d bytes is.0 none is.1

abbrev contents_kind : Kind (List ℕ)
contents_kind = record {
  fault = some_contents;
  means = IsContentsOf;
  empty = never_empty;
  blank = λ bytes. false;
  OfForm = AreContents;
  json = λ bytes. string (encode_of standard bytes);
  levels = 0;
}

contents_lawful : IsLawfulKind contents_kind
contents_lawful = record {
  one = contents_one;
  there = contents_there;
  formed = contents_form;
  told = λ d bytes none is. refl;
  again = λ bytes are.
      let w = contents_written bytes are.0 are.1 in
      record { is_set = refl; no_fault = w.no_fault; meant = (w.meant, are.0); emptiness = refl };
  plain = λ bytes. plain_text 0 (encode_of standard bytes);
}

shown_some : (text : List ℕ) → empty_text (string text) ≡ false → unless_empty text ≡ Some (string text)
shown_some [] e = absurd cc
shown_some (b ∷ bs) e = refl

some_byte : (b : ℕ) (bs : List ℕ) → (length (b ∷ bs) == 0) ≡ false
some_byte b bs = grind arith

contents_or_none : (bytes : List ℕ) → AreContents bytes
    → ((contents_shown bytes ≡ None) × (bytes ≡ [])) ⊎ (contents_shown bytes ≡ Some (string (encode_of standard bytes)))
contents_or_none [] are = inl (ap unless_empty (encode_of-nil standard), refl)
contents_or_none (b ∷ bs) are =
    inr (shown_some (encode_of standard (b ∷ bs)) ((contents_written (b ∷ bs) are.0 are.1).emptiness ∙ some_byte b bs))

filled_plain : (text : List ℕ) → MayBePlain 0 (unless_empty text)
filled_plain [] = tt
filled_plain (b ∷ bs) = plain_text 0 (b ∷ bs)

abbrev pub contents_field : NameForm → Fields (List ℕ)
contents_field n = default_field n contents_kind [] contents_shown

pub contents_field_lawful : (n : NameForm) → AreLawful (contents_field n)
contents_field_lawful n =
    default_lawful n contents_kind contents_lawful [] contents_shown (λ i. omega arith, omega arith) contents_or_none
    (λ bytes. filled_plain (encode_of standard bytes))

-- ---- whole numbers, of which 0 is left out

-- the size of a page
abbrev pub page_json : ℕ → Data
page_json n = number (unsigned n)

pub page_size_lawful : (n : NameForm) → AreLawful (whole_field n most_of_page page_json)
page_size_lawful n = whole_field_lawful page_json (λ m. record { no_float = refl; deep = omega arith }) n most_of_page (page_written most_of_page)

-- ---- how many bytes there are

abbrev bytes_json : ℕ → Data
bytes_json n = string (decimal n)

bytes_plain : (n : ℕ) → IsPlain 0 (bytes_json n)
bytes_plain n = plain_text 0 (decimal n)

size_some : (n : ℕ) → n ≤ most_of_bytes → IsSize (unless_0 n)
size_some zero few m e = absurd (none-some m e)
size_some (suc n) few m e =
    let some : unless_0 (suc n) ≡ Some (suc n) = grind arith in
    let same : suc n ≡ m = same_Some (suc n) m (sym some ∙ e) in
    (omega (arith, same), omega (arith, same, few))

of_some : (n : ℕ) → 0 < n → Some n ≡ unless_0 n
of_some n some = let no : (n == 0) ≡ false = grind arith in rw no refl

number_shown : (n : ℕ) → 0 < n → Some (bytes_json n) ≡ unless_zero bytes_json n
number_shown n some = let no : (n == 0) ≡ false = grind arith in rw no refl

said_plain : (o : Option ℕ) → MayBePlain 0 (option_map bytes_json o)
said_plain None = tt
said_plain (Some n) = bytes_plain n

abbrev pub size_field : NameForm → Fields (Option ℕ)
size_field n = record {
  names = n ∷ [];
  fault = optional n a_size;
  means = λ d. SaysSize (set_at n d);
  OfForm = IsSize;
  members = λ o. (n, option_map bytes_json o) ∷ [];
  levels = 0;
}

module _ (n : NameForm) where
  bytes_lawful : AreLawful (whole_field n most_of_bytes bytes_json)
  bytes_lawful = whole_field_lawful bytes_json bytes_plain n most_of_bytes (λ m few. bytes_written most_of_bytes m few (omega (arith, few)))

  size_again : (o : Option ℕ) (d : Data) → IsSize o → AreAt d ((n, option_map bytes_json o) ∷ []) → (optional n a_size d ≡ None) × SaysSize (set_at n d) o
  size_again None d is at = let read = bytes_lawful.again 0 d (omega arith) at in (read.0, record { number = 0; said = read.1; is = refl })
  size_again (Some m) d is at =
      let right = is m refl in
      let some : Some m ≡ unless_0 m = of_some m right.0 in
      let read = bytes_lawful.again m d right.1 (at.0 ∙ number_shown m right.0, tt) in
      (read.0, record { number = m; said = read.1; is = some })

  pub size_field_lawful : AreLawful (size_field n)
  size_field_lawful = record {
    one = λ d a b h k. h.is ∙ ap unless_0 (bytes_lawful.one d h.number k.number h.said k.said) ∙ sym k.is;
    there = λ d is none. let there = bytes_lawful.there d is none in (unless_0 there.0, record { number = there.0; said = there.1; is = refl });
    formed = λ d o none is. subst IsSize (sym is.is) (size_some is.number (bytes_lawful.formed d is.number none is.said));
    named = λ o. refl;
    again = size_again;
    plain = λ o. (said_plain o, tt);
  }
