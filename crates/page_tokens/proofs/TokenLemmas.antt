-- Tokens: what is wrong with bytes, and that a text has one cursor.
use Rattle.std.proofs.Common.{◌≡◌, ◌≢◌, ℕ, zero, suc, ◌+◌, ◌≤◌, ◌==◌, Bool, true, false, cond, nat_eq, List, [], ◌∷◌, ◌++◌, length, drop, Option, Some, None, Ok, Err, option_map, refl, sym, ap, subst, ◌∙◌, arith, length-append}
use Rattle.std.proofs.lemmas.Bool.Decides.{Decides-eqb, nat_tests}
use Rattle.std.proofs.lemmas.List.{drop_at, drop-drop}
use Rattle.std.proofs.lemmas.Slice.Eq.{starts_is}
use Rattle.std.specs.List.{starts_with}
use Rattle.std.specs.Option.{option_or}
use Rattle.base64.specs.Engines.{standard}
use Rattle.base64.specs.GeneralPurpose.{encode_of, decode_of, decoded_of, IsBytes}
use Rattle.base64.specs.declared.decode.DecodeError.{DecodeError}
use Rattle.base64.proofs.EngineFacts.{decode_of-encode_of}
use Rattle.base64.proofs.Streams.{decoded_of-ok}
use Rattle.page_tokens.specs.declared.keys.KeyPart.{KeyPart}
use Rattle.page_tokens.specs.declared.faults.TokenFault.{TokenFault}
use Rattle.page_tokens.specs.declared.faults.TokenFault.TheVariants.{NotBase64, BadForm, OtherQuery}
use Rattle.page_tokens.specs.Keys.{AreContents, BreaksAt, end_place, key_bytes, key_place}
use Rattle.page_tokens.specs.Tokens.{IsToken, bytes_fault, decoded_fault, front_place, query_fault, rest_place, token_bytes, token_fault}
use Rattle.page_tokens.proofs.ByteLemmas.{bytes_behind, split_front}
use Rattle.page_tokens.proofs.PartLemmas.{enough, reaches}
use Rattle.page_tokens.proofs.KeyLemmas.{breaks_there, judged, one_key, whole_key}

-- a text begins with its front, and what begins with one is it and the rest
starts : (front rest : List ℕ) → starts_with nat_eq (front ++ rest) front ≡ true
starts front rest = (starts_is Decides-eqb (front ++ rest) front (starts_with nat_eq (front ++ rest) front) refl).1 rest refl

begins : (front bytes : List ℕ) → starts_with nat_eq bytes front ≡ true → bytes ≡ front ++ drop (length front) bytes
begins front bytes e = (starts_is Decides-eqb bytes front (starts_with nat_eq bytes front) refl).0 e

same : (n : ℕ) → (n == n) ≡ true
same n = grind (arith, nat_tests)

-- the front decides first, then the query
pub at_front : (query bytes : List ℕ) (kind : ℕ) (parts : List KeyPart) (at : ℕ) → front_place bytes ≡ Some at
    → bytes_fault query kind parts bytes ≡ Some (BadForm at)
unfolding bytes_fault
at_front query bytes kind parts at e = rw e refl

pub other_query : (query bytes : List ℕ) (kind : ℕ) (parts : List KeyPart) → front_place bytes ≡ None → starts_with nat_eq (drop 1 bytes) query ≡ false
    → bytes_fault query kind parts bytes ≡ Some OtherQuery
unfolding bytes_fault
other_query query bytes kind parts front e = rw (front, e) refl

-- then what stands behind it
pub behind_query : (query bytes : List ℕ) (kind : ℕ) (parts : List KeyPart) → front_place bytes ≡ None → starts_with nat_eq (drop 1 bytes) query ≡ true
    → bytes_fault query kind parts bytes ≡ option_map (λ n. BadForm (33 + n)) (rest_place kind parts (drop 33 bytes))
unfolding bytes_fault
behind_query query bytes kind parts front e = rw (front, e) refl

pub no_key : (query bytes : List ℕ) (kind : ℕ) (parts : List KeyPart) → front_place bytes ≡ None → starts_with nat_eq (drop 1 bytes) query ≡ true
    → rest_place kind parts (drop 33 bytes) ≡ Some 0 → bytes_fault query kind parts bytes ≡ Some (BadForm 33)
no_key query bytes kind parts front e rest = behind_query query bytes kind parts front e ∙ ap (option_map (λ n. BadForm (33 + n))) rest

-- the first byte is 1
first_one : (b : ℕ) (t : Bool) (o : Option ℕ) → t ≡ (b == 1) → cond t o (Some 0) ≡ None → (b ≡ 1) × (o ≡ None)
first_one b true o is e = (grind (arith, nat_tests), e)
first_one b false o is e = absurd cc

pub front_one : (bytes : List ℕ) → front_place bytes ≡ None → bytes ≡ 1 ∷ drop 1 bytes
front_one [] e = absurd cc
front_one (b ∷ bytes) e =
    let both = first_one b (b == 1) (end_place 33 (b ∷ bytes)) refl e in
    ap (λ (x : ℕ). x ∷ bytes) both.0

pub front_long : (bytes : List ℕ) → front_place bytes ≡ None → 33 ≤ length bytes
front_long [] e = absurd cc
front_long (b ∷ bytes) e = reaches 33 (b ∷ bytes) (first_one b (b == 1) (end_place 33 (b ∷ bytes)) refl e).1

pub is_front : (query bytes : List ℕ) → length query ≡ 32 → front_place bytes ≡ None → starts_with nat_eq (drop 1 bytes) query ≡ true
    → bytes ≡ 1 ∷ query ++ drop 33 bytes
is_front query bytes size front e =
    let behind = begins query (drop 1 bytes) e in
    let one = front_one bytes front in
    let whole : bytes ≡ 1 ∷ query ++ drop (length query) (drop 1 bytes) = one ∙ ap (λ (b : List ℕ). 1 ∷ b) behind in
    let places : 1 + length query ≡ 33 = omega (arith, size) in
    let rest : drop (length query) (drop 1 bytes) ≡ drop 33 bytes = drop-drop (length query) 1 bytes ∙ ap (λ (n : ℕ). drop n bytes) places in
    whole ∙ ap (λ (r : List ℕ). 1 ∷ query ++ r) rest

pub is_token : (query bytes : List ℕ) (kind : ℕ) (key : List ℕ) → length query ≡ 32 → front_place bytes ≡ None
    → starts_with nat_eq (drop 1 bytes) query ≡ true → drop 33 bytes ≡ kind ∷ key → bytes ≡ token_bytes query kind key
is_token query bytes kind key size front e rest = is_front query bytes size front e ∙ ap (λ (r : List ℕ). 1 ∷ query ++ r) rest

-- the front of a token
token_front : (query : List ℕ) (kind : ℕ) (key : List ℕ) → length query ≡ 32 → front_place (token_bytes query kind key) ≡ None
token_front query kind key size = enough 33 (token_bytes query kind key) (omega (arith, length-append (1 ∷ query) (kind ∷ key), size))

-- of the bytes of a token only the key may be broken
moved_fault : (o : Option ℕ) → option_map (λ n. BadForm (33 + n)) (option_map (λ n. 1 + n) o) ≡ option_map (λ n. BadForm (34 + n)) o
moved_fault None = refl
moved_fault (Some n) = ap (λ (k : ℕ). Some (BadForm k)) (omega arith)

pub token_bytes_fault : (query : List ℕ) (kind : ℕ) (parts : List KeyPart) (key : List ℕ) → length query ≡ 32
    → bytes_fault query kind parts (token_bytes query kind key) ≡ option_map (λ n. BadForm (34 + n)) (key_place parts key)
token_bytes_fault query kind parts key size =
    behind_query query (token_bytes query kind key) kind parts (token_front query kind key size) (starts query (kind ∷ key))
    ∙ ap (λ (r : List ℕ). option_map (λ n. BadForm (33 + n)) (rest_place kind parts r)) (drop_at (1 ∷ query) (kind ∷ key) 33 (omega (arith, size)))
    ∙ rw (same kind) (moved_fault (key_place parts key))

pub broken_key : (query : List ℕ) (kind : ℕ) (parts : List KeyPart) (key : List ℕ) (at : ℕ) → length query ≡ 32 → key_place parts key ≡ Some at
    → bytes_fault query kind parts (token_bytes query kind key) ≡ Some (BadForm (34 + at))
broken_key query kind parts key at size e = token_bytes_fault query kind parts key size ∙ ap (option_map (λ n. BadForm (34 + n))) e

-- bytes without a fault are those of a token
record HasKey (query : List ℕ) (kind : ℕ) (parts : List KeyPart) (bytes : List ℕ) : Type 0 where
  key : List ℕ
  form : bytes ≡ token_bytes query kind key
  whole : key_place parts key ≡ None

no_place : (o : Option ℕ) → option_map BadForm o ≡ None → o ≡ None
no_place None e = refl
no_place (Some n) e = absurd cc

none_of : (p q r : Option TokenFault) → option_or p (option_or q r) ≡ None → (p ≡ None) × (q ≡ None) × (r ≡ None)
none_of None None r e = (refl, refl, e)
none_of None (Some f) r e = absurd cc
none_of (Some f) q r e = absurd cc

same_query : (t : Bool) → cond t None (Some OtherQuery) ≡ None → t ≡ true
same_query true e = refl
same_query false e = absurd cc

moved_none : (n : ℕ) (o : Option ℕ) → option_map (λ m. BadForm (n + m)) o ≡ None → o ≡ None
moved_none n None e = refl
moved_none n (Some m) e = absurd cc

right_kind : (kind b : ℕ) (t : Bool) (o : Option ℕ) → t ≡ (b == kind) → cond t (option_map (λ n. 1 + n) o) (Some 0) ≡ None → (b ≡ kind) × (o ≡ None)
right_kind kind b true None is e = (grind (arith, nat_tests), refl)
right_kind kind b true (Some n) is e = absurd cc
right_kind kind b false o is e = absurd cc

kind_and_key : (kind : ℕ) (parts : List KeyPart) (rest : List ℕ) → rest_place kind parts rest ≡ None
    → (key : List ℕ) × (rest ≡ kind ∷ key) × (key_place parts key ≡ None)
kind_and_key kind parts [] e = absurd cc
kind_and_key kind parts (b ∷ key) e =
    let both = right_kind kind b (b == kind) (key_place parts key) refl e in
    (key, ap (λ (k : ℕ). k ∷ key) both.0, both.1)

has_key : (query : List ℕ) (kind : ℕ) (parts : List KeyPart) (bytes : List ℕ) → length query ≡ 32 → bytes_fault query kind parts bytes ≡ None
    → HasKey query kind parts bytes
unfolding bytes_fault
has_key query kind parts bytes size none =
    let all = none_of (option_map BadForm (front_place bytes)) (query_fault query bytes) _ none in
    let front = no_place (front_place bytes) all.0 in
    let asked = same_query (starts_with nat_eq (drop 1 bytes) query) all.1 in
    let rest = kind_and_key kind parts (drop 33 bytes) (moved_none 33 (rest_place kind parts (drop 33 bytes)) all.2) in
    record {
      key = rest.0;
      form = is_front query bytes size front asked ∙ ap (λ (r : List ℕ). 1 ∷ query ++ r) rest.1;
      whole = rest.2;
    }

-- what is written is decoded again
decoded_again : (bytes : List ℕ) → IsBytes bytes → decoded_of standard (encode_of standard bytes) ≡ Some bytes
decoded_again bytes are = decoded_of-ok standard (encode_of standard bytes) bytes (decode_of-encode_of standard bytes refl are)

pub encoded_fault : (query : List ℕ) (kind : ℕ) (parts : List KeyPart) (bytes : List ℕ) → IsBytes bytes
    → token_fault query kind parts (encode_of standard bytes) ≡ bytes_fault query kind parts bytes
encoded_fault query kind parts bytes are = ap (decoded_fault query kind parts) (decoded_again bytes are)

pub no_fault : (query : List ℕ) (kind : ℕ) (parts : List KeyPart) (contents : List (List ℕ)) (text : List ℕ) → length query ≡ 32
    → IsToken query kind parts contents text → token_fault query kind parts text ≡ None
no_fault query kind parts contents text size token =
    ap (token_fault query kind parts) token.spelling
    ∙ encoded_fault query kind parts (token_bytes query kind (key_bytes parts contents)) token.bytes
    ∙ token_bytes_fault query kind parts (key_bytes parts contents) size
    ∙ ap (option_map (λ n. BadForm (34 + n))) (whole_key parts contents token.are)

drop_at_all : (front : List ℕ) (kind : ℕ) (key : List ℕ) (n : ℕ) → length front ≡ n → drop (suc n) (front ++ kind ∷ key) ≡ key
drop_at_all [] kind key zero size = refl
drop_at_all [] kind key (suc n) size = absurd (omega arith)
drop_at_all (b ∷ front) kind key zero size = absurd (omega arith)
drop_at_all (b ∷ front) kind key (suc n) size = drop_at_all front kind key n (omega arith)

key_are : (query : List ℕ) (kind : ℕ) (key : List ℕ) → length query ≡ 32 → IsBytes (token_bytes query kind key) → IsBytes key
key_are query kind key size are =
    let behind : drop 34 (token_bytes query kind key) ≡ key = drop_at_all (1 ∷ query) kind key 33 (omega (arith, size)) in
    subst IsBytes behind (bytes_behind 34 (token_bytes query kind key) are)

pub only_tokens : (query : List ℕ) (kind : ℕ) (parts : List KeyPart) (bytes : List ℕ) → length query ≡ 32 → IsBytes bytes
    → token_fault query kind parts (encode_of standard bytes) ≡ None
    → (contents : List (List ℕ)) × IsToken query kind parts contents (encode_of standard bytes)
only_tokens query kind parts bytes size are none =
    let has = has_key query kind parts bytes size (sym (encoded_fault query kind parts bytes are) ∙ none) in
    let token_are : IsBytes (token_bytes query kind has.key) = subst IsBytes has.form are in
    let found = (judged parts has.key (key_are query kind has.key size token_are)).whole has.whole in
    let form : bytes ≡ token_bytes query kind (key_bytes parts found.0) = has.form ∙ ap (token_bytes query kind) found.2 in
    (found.0, record { spelling = ap (encode_of standard) form; are = found.1; bytes = subst IsBytes form are })

-- a text that is no base64
not_at_all : (query : List ℕ) (kind : ℕ) (parts : List KeyPart) (bytes : List ℕ) → bytes_fault query kind parts bytes ≡ Some NotBase64 → ⊥
unfolding bytes_fault
not_at_all query kind parts bytes e = never (front_place bytes) (starts_with nat_eq (drop 1 bytes) query) (rest_place kind parts (drop 33 bytes)) e
  where
    never : (p : Option ℕ) (t : Bool) (r : Option ℕ)
        → option_or (option_map BadForm p) (option_or (cond t None (Some OtherQuery)) (option_map (λ n. BadForm (33 + n)) r)) ≡ Some NotBase64 → ⊥
    never (Some n) t r e = cc
    never None false r e = cc
    never None true (Some n) e = cc
    never None true None e = cc

pub only_base64 : (query : List ℕ) (kind : ℕ) (parts : List KeyPart) (text bytes : List ℕ) → token_fault query kind parts text ≡ Some NotBase64
    → IsBytes bytes → text ≢ encode_of standard bytes
only_base64 query kind parts text bytes fault are is =
    not_at_all query kind parts bytes (sym (ap (token_fault query kind parts) is ∙ encoded_fault query kind parts bytes are) ∙ fault)

-- one text has one cursor
one_bytes : (b c : List ℕ) → IsBytes b → IsBytes c → encode_of standard b ≡ encode_of standard c → b ≡ c
one_bytes b c are other e =
    let both : Some b ≡ Some c = sym (decoded_again b are) ∙ ap (decoded_of standard) e ∙ decoded_again c other in cc

pub one_told : (query other : List ℕ) (kind : ℕ) (parts : List KeyPart) (contents others : List (List ℕ)) (text : List ℕ) → length query ≡ length other
    → IsToken query kind parts contents text → IsToken other kind parts others text → (query ≡ other) × (contents ≡ others)
one_told query other kind parts contents others text size token second =
    let key : List ℕ = key_bytes parts contents in
    let other_key : List ℕ = key_bytes parts others in
    let bytes : token_bytes query kind key ≡ token_bytes other kind other_key =
    one_bytes (token_bytes query kind key) (token_bytes other kind other_key) token.bytes second.bytes (sym token.spelling ∙ second.spelling) in
    let both = split_front (1 ∷ query) (kind ∷ key) (1 ∷ other) (kind ∷ other_key) (omega (arith, size)) bytes in
    let fronts : 1 ∷ query ≡ 1 ∷ other = both.0 in
    let backs : kind ∷ key ≡ kind ∷ other_key = both.1 in
    let keys : key ≡ other_key = cc in
    (cc, one_key parts contents others token.are second.are keys)

-- what is decoded, and what isn't
none_decoded : (text : List ℕ) (d : DecodeError) → decode_of standard text ≡ Err d → decoded_of standard text ≡ None
unfolding decoded_of
none_decoded text d e = rw e refl

pub no_bytes : (text : List ℕ) (d : DecodeError) → decode_of standard text ≡ Err d → decoded_of standard text ≡ None
no_bytes text d e = none_decoded text d e

pub some_bytes : (text bytes : List ℕ) → decode_of standard text ≡ Ok bytes → decoded_of standard text ≡ Some bytes
some_bytes text bytes e = decoded_of-ok standard text bytes e

-- the key is within the bytes
pub key_within : (query : List ℕ) (kind : ℕ) (key bytes : List ℕ) → bytes ≡ token_bytes query kind key → length key ≤ length bytes
key_within query kind key bytes e =
    let size : length bytes ≡ length (1 ∷ query) + length (kind ∷ key) = ap length e ∙ length-append (1 ∷ query) (kind ∷ key) in
    omega (arith, size)

pub broken_there : (query : List ℕ) (kind : ℕ) (parts : List KeyPart) (key bytes : List ℕ) (at : ℕ) → length query ≡ 32
    → bytes ≡ token_bytes query kind key → BreaksAt parts key at → bytes_fault query kind parts bytes ≡ Some (BadForm (34 + at))
broken_there query kind parts key bytes at size e breaks =
    ap (bytes_fault query kind parts) e ∙ broken_key query kind parts key at size (breaks_there parts key at breaks)

-- what has a fault is no token
pub no_token : (query : List ℕ) (kind : ℕ) (parts : List KeyPart) (held : List (List ℕ)) (text : List ℕ) → decoded_of standard text ≡ None
    → IsToken query kind parts held text → ⊥
no_token query kind parts held text none token =
    let some : decoded_of standard text ≡ Some (token_bytes query kind (key_bytes parts held)) =
    ap (decoded_of standard) token.spelling ∙ decoded_again (token_bytes query kind (key_bytes parts held)) token.bytes in
    cc

pub faulty : (query : List ℕ) (kind : ℕ) (parts : List KeyPart) (held : List (List ℕ)) (text : List ℕ) (f : TokenFault) → length query ≡ 32
    → token_fault query kind parts text ≡ Some f → IsToken query kind parts held text → ⊥
faulty query kind parts held text f size fault token =
    let none = no_fault query kind parts held text size token in
    cc

pub fault_of : (query : List ℕ) (kind : ℕ) (parts : List KeyPart) (text bytes : List ℕ) (f : TokenFault) → decoded_of standard text ≡ Some bytes
    → bytes_fault query kind parts bytes ≡ Some f → token_fault query kind parts text ≡ Some f
fault_of query kind parts text bytes f some fault = ap (decoded_fault query kind parts) some ∙ fault

-- what is read is a token
pub token_read : (query : List ℕ) (kind : ℕ) (parts : List KeyPart) (held : List (List ℕ)) (text bytes : List ℕ) → AreContents parts held
    → IsBytes bytes → text ≡ encode_of standard bytes → bytes ≡ token_bytes query kind (key_bytes parts held) → IsToken query kind parts held text
token_read query kind parts held text bytes are is spelled form =
    record { spelling = spelled ∙ ap (encode_of standard) form; are = are; bytes = subst IsBytes form is }
