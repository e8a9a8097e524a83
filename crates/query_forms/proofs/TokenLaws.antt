-- Page tokens: a text is one cursor's at most, and some cursor's where it has no fault; and a token
-- that is written is read again.
use Rattle.std.proofs.Common.{◌≡◌, ℕ, suc, ◌+◌, ◌^◌, ◌<◌, ◌==◌, true, false, List, [], ◌∷◌, ◌++◌, length, get_or, Option, Some, None, IfSome, option_map, map, refl, sym, ap, subst, ◌∙◌, arith}
use Rattle.std.specs.Option.{ForSome, option_or}
use Rattle.std.specs.Int.{w32, to_le_bytes, from_le_bytes}
use Rattle.std.specs.Str.{IsUtf8}
use Rattle.std.proofs.lemmas.Nat.{le_bytes_4, from_le_bytes-to_le_bytes_4}
use Rattle.std.proofs.lemmas.List.{append-nil}
use Rattle.std.proofs.lemmas.Option.{none-some, same_Some}
use Rattle.std.specs.Prelude.{if◌then◌else◌}
use Rattle.serde_json.specs.Data.{Data, null, boolean, number, string, array, object}
use Rattle.base64.specs.Engines.{standard}
use Rattle.base64.specs.GeneralPurpose.{IsBytes, decoded_of, encode_of}
use Rattle.base64.proofs.Streams.{decoded_of-nil}
use Rattle.sha2.proofs.Facts256.{length-sha256}
use Rattle.names_realms.specs.Names.{invocation_name}
use Rattle.json_fields.specs.Kinds.{empty_text}
use Rattle.json_fields.specs.Writing.{IsWritten}
use Rattle.json_fields.proofs.FormLaws.{GivesForm}
use Rattle.json_fields.proofs.MeaningLaws.{text_one}
use Rattle.json_fields.proofs.PlainLaws.{plain_text}
use Rattle.field_kinds.proofs.ThereLaws.{IsThere}
use Rattle.form_fields.specs.Fields.{Fields, Kind, filled_field}
use Rattle.form_fields.specs.Laws.{AreLawful, IsLawfulKind}
use Rattle.form_fields.proofs.FieldLaws.{filled_lawful}
use Rattle.form_fields.proofs.TextLaws.{by_text}
use Rattle.page_tokens.specs.declared.faults.TokenFault.{TokenFault}
use Rattle.page_tokens.specs.declared.faults.TokenFault.TheVariants.{NotBase64, BadForm, OtherQuery, Memory}
use Rattle.page_tokens.specs.declared.keys.KeyPart.{KeyPart}
use Rattle.page_tokens.specs.declared.keys.KeyPart.TheVariants.{Text}
use Rattle.name_parts.specs.declared.parts.PartForm.TheVariants.{TestId}
use Rattle.page_tokens.specs.declared.kinds.ResultCursor.{ResultCursor}
use Rattle.page_tokens.specs.declared.kinds.VerdictCursor.{VerdictCursor}
use Rattle.page_tokens.specs.Cursors.{result_parts, result_contents, verdict_parts, verdict_contents}
use Rattle.page_tokens.specs.Keys.{AreContents, key_bytes, part_bytes}
use Rattle.page_tokens.specs.Tokens.{IsToken, bytes_fault, decoded_fault, front_place, query_fault, query_hash, token_bytes, token_fault}
use Rattle.page_tokens.proofs.KindLemmas.{one_byte}
use Rattle.page_tokens.proofs.TokenLemmas.{at_front, no_fault, one_told, only_tokens}
use Rattle.query_forms.specs.Names as name
use Rattle.query_forms.specs.Tokens.{CursorForm, result_cursors, verdict_cursors, token_refused, a_token, IsTokenOf, IsCursor, token_text, IsCursorOfForm}
use Rattle.query_forms.proofs.DecodedLaws.{decoded_is, utf8_bytes}

-- What the laws ask of a kind of cursors: what the parts of one hold is this one's, and each that
-- they may hold is some cursor's.
pub record IsLawfulCursor {C : Type 0} (f : CursorForm C) : Type 0 where
  pub one : (c d : C) → f.fits c → f.fits d → f.held c ≡ f.held d → c ≡ d
  pub there : (contents : List (List ℕ)) → AreContents f.parts contents → IsBytes (key_bytes f.parts contents) → (c : C) × (f.held c ≡ contents) × f.fits c

-- ---- a token has no fault, and a text without one is a token

pub token_right : {C : Type 0} (f : CursorForm C) (query text : List ℕ) (c : C) → length query ≡ 32 → IsTokenOf f query text c
    → token_refused (token_fault query f.number f.parts text) ≡ None
token_right f query text c size is = ap token_refused (no_fault query f.number f.parts (f.held c) text size is.is_token)

at_bytes : (p r : Option ℕ) (q : Option TokenFault) → (q ≡ Some Memory → ⊥)
    → token_refused (option_or (option_map BadForm p) (option_or q (option_map (λ n. BadForm (33 + n)) r))) ≡ None
    → option_or (option_map BadForm p) (option_or q (option_map (λ n. BadForm (33 + n)) r)) ≡ None
at_bytes (Some n) r q never h = absurd cc
at_bytes None r (Some NotBase64) never h = absurd cc
at_bytes None r (Some (BadForm at)) never h = absurd cc
at_bytes None r (Some OtherQuery) never h = absurd cc
at_bytes None r (Some Memory) never h = absurd (never refl)
at_bytes None (Some n) None never h = absurd cc
at_bytes None None None never h = refl

asked_other : (query bytes : List ℕ) → query_fault query bytes ≡ Some Memory → ⊥
asked_other query bytes h = other _ h
  where
    other : (t : _) → (if t then None else Some OtherQuery) ≡ Some Memory → ⊥
    other true h = cc
    other false h = cc

bytes_unrefused : (query : List ℕ) (kind : ℕ) (parts : List KeyPart) (bytes : List ℕ) → token_refused (bytes_fault query kind parts bytes) ≡ None
    → bytes_fault query kind parts bytes ≡ None
unfolding bytes_fault
bytes_unrefused query kind parts bytes h = at_bytes (front_place bytes) _ (query_fault query bytes) (asked_other query bytes) h

-- what the text of a token decodes to
record IsDecoded (query : List ℕ) (kind : ℕ) (parts : List KeyPart) (text : List ℕ) : Type 0 where
  bytes : List ℕ
  are : IsBytes bytes
  spelling : text ≡ encode_of standard bytes
  right : token_fault query kind parts (encode_of standard bytes) ≡ None

decodes : (query : List ℕ) (kind : ℕ) (parts : List KeyPart) (text : List ℕ) (o : Option (List ℕ)) → IsBytes text → decoded_of standard text ≡ o
    → token_refused (decoded_fault query kind parts o) ≡ None → IsDecoded query kind parts text
decodes query kind parts text None are e h = absurd cc
decodes query kind parts text (Some bytes) are e h =
    let is = decoded_is standard text bytes (refl, refl) are e in
    let right : token_fault query kind parts text ≡ None = ap (decoded_fault query kind parts) e ∙ bytes_unrefused query kind parts bytes h in
    record {
      bytes = bytes;
      are = is.1;
      spelling = is.0;
      right = subst (λ (t : List ℕ). token_fault query kind parts t ≡ None) is.0 right;
    }

bytes_back : (a b : List ℕ) → IsBytes (a ++ b) → IsBytes b
bytes_back [] b are = are
bytes_back (x ∷ a) b are = bytes_back a b (λ i. are (suc i))

key_of : (query : List ℕ) (kind : ℕ) (key : List ℕ) → IsBytes (token_bytes query kind key) → IsBytes key
key_of query kind key are = bytes_back (kind ∷ []) key (bytes_back (1 ∷ query) (kind ∷ key) are)

module _ {C : Type 0} (f : CursorForm C) (law : IsLawfulCursor f) where
  text_there : (query text : List ℕ) → length query ≡ 32 → IsUtf8 text → token_refused (token_fault query f.number f.parts text) ≡ None
      → (c : C) × IsTokenOf f query text c
  text_there query text size utf8 none =
      let is = decodes query f.number f.parts text (decoded_of standard text) (utf8_bytes text utf8) refl none in
      let token = only_tokens query f.number f.parts is.bytes size is.are is.right in
      let cursor = law.there token.0 token.1.are (key_of query f.number (key_bytes f.parts token.0) token.1.bytes) in
      let here : IsToken query f.number f.parts token.0 text = subst (IsToken query f.number f.parts token.0) (sym is.spelling) token.1 in (
        cursor.0,
        record {
          is_token = subst (λ (held : List (List ℕ)). IsToken query f.number f.parts held text) (sym cursor.1) here;
          fits = cursor.2;
        },
      )

  cursor_there : (query : List ℕ) → length query ≡ 32 → IsThere (a_token f query) (IsCursor f query)
  cursor_there query size null is h = absurd cc
  cursor_there query size (boolean b) is h = absurd cc
  cursor_there query size (number n) is h = absurd cc
  cursor_there query size (string s) is h = text_there query s size is h
  cursor_there query size (array ds) is h = absurd cc
  cursor_there query size (object ms) is h = absurd cc

  text_one_cursor : (query s : List ℕ) (a b : C) → IsTokenOf f query s a → IsTokenOf f query s b → a ≡ b
  text_one_cursor query s a b h k =
      law.one a b h.fits k.fits (one_told query query f.number f.parts (f.held a) (f.held b) s refl h.is_token k.is_token).1

  cursor_one : (query : List ℕ) (d : Data) (a b : C) → IsCursor f query d a → IsCursor f query d b → a ≡ b
  cursor_one query d a b h k = text_one (IsTokenOf f query) (text_one_cursor query) d a b h k

-- ---- the cursor of a token as a kind of values

pub query_size : (method : List ℕ) (names : List (List ℕ)) → length (query_hash method names) ≡ 32
unfolding query_hash
query_size method names = length-sha256 _

-- the token of a cursor is one
abbrev pub HasToken : {C : Type 0} → CursorForm C → List ℕ → C → Type 0
HasToken f query c = IsTokenOf f query (token_text f query c) c

abbrev pub cursor_kind : {C : Type 0} → CursorForm C → List ℕ → Kind C
cursor_kind f query = record {
  fault = a_token f query;
  means = IsCursor f query;
  empty = empty_text;
  blank = λ c. false;
  OfForm = HasToken f query;
  json = λ c. string (token_text f query c);
  levels = 0;
}

cursor_formed : {C : Type 0} (f : CursorForm C) (query : List ℕ) → GivesForm (a_token f query) (IsCursor f query) (HasToken f query)
cursor_formed f query d c none is =
    by_text (IsTokenOf f query) (λ e x. HasToken f query x) (λ s x told. subst (λ (text : List ℕ). IsTokenOf f query text x) told.is_token.spelling told) d c is

-- ---- what is written

no_token : (query : List ℕ) (kind : ℕ) (parts : List KeyPart) → token_fault query kind parts [] ≡ None → ⊥
no_token query kind parts h =
    let some : token_fault query kind parts [] ≡ Some (BadForm 0) = ap (decoded_fault query kind parts) (decoded_of-nil standard) ∙ at_front query [] kind parts 0 refl in
    let clash : Some (BadForm 0) ≡ None = sym some ∙ h in
    cc clash

some_text : (query : List ℕ) (kind : ℕ) (parts : List KeyPart) (text : List ℕ) → token_fault query kind parts text ≡ None → (length text == 0) ≡ false
some_text query kind parts [] h = absurd (no_token query kind parts h)
some_text query kind parts (b ∷ bs) h = grind arith

pub token_written : {C : Type 0} (f : CursorForm C) (query : List ℕ) (c : C) → length query ≡ 32 → IsTokenOf f query (token_text f query c) c
    → IsWritten (a_token f query) (IsCursor f query) empty_text (λ _. false) c (string (token_text f query c))
token_written f query c size is =
    let right = no_fault query f.number f.parts (f.held c) (token_text f query c) size is.is_token in
    record {
      is_set = refl;
      no_fault = ap token_refused right;
      meant = is;
      emptiness = some_text query f.number f.parts (token_text f query c) right;
    }

cursor_told : {C : Type 0} (f : CursorForm C) (query : List ℕ) → length query ≡ 32 → (d : Data) (c : C) → IsCursor f query d c → empty_text d ≡ false
cursor_told f query size d c is =
    by_text (IsTokenOf f query) (λ e x. empty_text e ≡ false)
    (λ s x told. some_text query f.number f.parts s (no_fault query f.number f.parts (f.held x) s size told.is_token)) d c is

pub cursor_lawful : {C : Type 0} (f : CursorForm C) → IsLawfulCursor f → (query : List ℕ) → length query ≡ 32 → IsLawfulKind (cursor_kind f query)
cursor_lawful f law query size = record {
  one = cursor_one f law query;
  there = cursor_there f law query size;
  formed = cursor_formed f query;
  told = λ d c none is. cursor_told f query size d c is;
  again = λ c is. token_written f query c size is;
  plain = λ c. plain_text 0 (token_text f query c);
}

-- ---- a token and what the profile leaves out, beside the names of a query

abbrev pub query_of : List ℕ → List (List ℕ) → List ℕ
query_of method ids = query_hash method (map invocation_name ids)

abbrev pub token_field : {C : Type 0} → CursorForm C → List ℕ → Fields (Option C)
token_field f query = filled_field name.page_token (cursor_kind f query)

pub token_are : {C : Type 0} (f : CursorForm C) → IsLawfulCursor f → (method : List ℕ) (ids : List (List ℕ)) → AreLawful (token_field f (query_of method ids))
token_are f law method ids =
    filled_lawful name.page_token (cursor_kind f (query_of method ids)) (cursor_lawful f law (query_of method ids) (query_size method (map invocation_name ids))) (λ c is. refl)

-- what is written of a token is one
pub tokens_written : {C : Type 0} (f : CursorForm C) (query : List ℕ) (o : Option C)
    → IfSome o (λ c. IsWritten (a_token f query) (IsCursor f query) empty_text (λ _. false) c (string (token_text f query c))) → ForSome o (HasToken f query)
tokens_written f query None w c e = absurd (none-some c e)
tokens_written f query (Some b) w c e = subst (HasToken f query) (same_Some b c e) w.meant

-- a cursor with a token is of its form
pub tokens_of_form : {C : Type 0} (f : CursorForm C) (query : List ℕ) (o : Option C) → ForSome o (HasToken f query) → ForSome o (IsCursorOfForm f)
tokens_of_form f query o are c e = let is = are c e in record { are = is.is_token.are; fits = is.fits }

-- ---- the kinds of cursors

result_one : (c d : ResultCursor) → result_contents c ≡ result_contents d → c ≡ d
result_one c d e =
    let invocation : c.invocation ≡ d.invocation = cc in
    let test : c.test ≡ d.test = cc in
    let result : c.result ≡ d.result = cc in
    λ i. record { invocation = invocation i; test = test i; result = result i }

result_there : (contents : List (List ℕ)) → AreContents result_parts contents → (c : ResultCursor) × (result_contents c ≡ contents)
result_there [] are = absurd are
result_there (a ∷ []) are = absurd are.1
result_there (a ∷ b ∷ []) are = absurd are.1.1
result_there (a ∷ b ∷ e ∷ []) are = (record { invocation = a; test = b; result = e }, refl)
result_there (a ∷ b ∷ e ∷ g ∷ rest) are = absurd are.1.1.1

pub result_cursor_lawful : IsLawfulCursor result_cursors
result_cursor_lawful = record {
  one = λ c d h k e. result_one c d e;
  there = λ contents are bytes. let c = result_there contents are in (c.0, c.1, tt);
}

ordinal_one : (n m : ℕ) → n < 2 ^ 32 → m < 2 ^ 32 → to_le_bytes w32 n ≡ to_le_bytes w32 m → n ≡ m
ordinal_one n m one two e = sym (from_le_bytes-to_le_bytes_4 n one) ∙ ap (from_le_bytes w32) e ∙ from_le_bytes-to_le_bytes_4 m two

verdict_one : (c d : VerdictCursor) → c.ordinal < 2 ^ 32 → d.ordinal < 2 ^ 32 → verdict_contents c ≡ verdict_contents d → c ≡ d
verdict_one c d h k e =
    let statuses : c.status ∷ [] ≡ d.status ∷ [] = cc in
    let status : c.status ≡ d.status = cc in
    let test : c.test ≡ d.test = cc in
    let label : c.label ≡ d.label = cc in
    let ordinals : to_le_bytes w32 c.ordinal ≡ to_le_bytes w32 d.ordinal = cc in
    let ordinal : c.ordinal ≡ d.ordinal = ordinal_one c.ordinal d.ordinal h k ordinals in
    λ i. record { status = status i; test = test i; label = label i; ordinal = ordinal i }

-- the number of four bytes
ordinal_there : (bs : List ℕ) → length bs ≡ 4 → IsBytes bs → (n : ℕ) × (to_le_bytes w32 n ≡ bs) × (n < 2 ^ 32)
ordinal_there bs size are = (from_le_bytes w32 bs, le_bytes_4 bs (from_le_bytes w32 bs) size are refl, four_below bs size are)
  where
    four_below : (bs : List ℕ) → length bs ≡ 4 → IsBytes bs → from_le_bytes w32 bs < 2 ^ 32
    four_below [] size are = absurd (omega arith)
    four_below (a ∷ []) size are = absurd (omega arith)
    four_below (a ∷ b ∷ []) size are = absurd (omega arith)
    four_below (a ∷ b ∷ c ∷ []) size are = absurd (omega arith)
    four_below (a ∷ b ∷ c ∷ d ∷ []) size are =
        let one : a < 256 = are 0 in
        let two : b < 256 = are 1 in
        let three : c < 256 = are 2 in
        let four : d < 256 = are 3 in
        omega arith
    four_below (a ∷ b ∷ c ∷ d ∷ e ∷ bs) size are = absurd (omega arith)

verdict_there : (contents : List (List ℕ)) → AreContents verdict_parts contents → IsBytes (key_bytes verdict_parts contents)
    → (c : VerdictCursor) × (verdict_contents c ≡ contents) × (c.ordinal < 2 ^ 32)
verdict_there [] are bytes = absurd are
verdict_there (a ∷ []) are bytes = absurd are.1
verdict_there (a ∷ b ∷ []) are bytes = absurd are.1.1
verdict_there (a ∷ b ∷ e ∷ []) are bytes = absurd are.1.1.1
verdict_there (a ∷ b ∷ e ∷ g ∷ []) are bytes =
    let status : get_or a 0 0 ∷ [] ≡ a = one_byte a are.0 in
    let tail = bytes_back e (g ++ []) (bytes_back (part_bytes (Text TestId) b) (e ++ (g ++ [])) (bytes_back a _ bytes)) in
    let ordinal = ordinal_there g are.1.1.1.0 (subst IsBytes (append-nil g) tail) in (
      record { status = get_or a 0 0; test = b; label = e; ordinal = ordinal.0 },
      rw (status, ordinal.1) refl,
      ordinal.2,
    )
verdict_there (a ∷ b ∷ e ∷ g ∷ h ∷ rest) are bytes = absurd are.1.1.1.1

pub verdict_cursor_lawful : IsLawfulCursor verdict_cursors
verdict_cursor_lawful = record {
  one = verdict_one;
  there = verdict_there;
}
