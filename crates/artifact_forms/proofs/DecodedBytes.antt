-- What a text decodes to by base64 are bytes, of which it is the encoding.
use Rattle.std.proofs.Common.{◌≡◌, ◌<◌, ◌+◌, ◌*◌, ◌/◌, ◌%◌, ℕ, zero, suc, true, List, [], ◌∷◌, ◌++◌, length, take, drop, slice_index, Some, None, Option, Result, Ok, Err, inl, inr, ⊎_elim, refl, subst, arith}
use Rattle.std.specs.List.{All}
use Rattle.std.specs.Str.{IsUtf8}
use Rattle.std.specs.Result.{result_ok}
use Rattle.std.proofs.lemmas.Bool.{and_parts}
use Rattle.std.proofs.lemmas.List.Elements.{All-nil, All-head, All-tail, All-append}
use lib.Utf8.{scalar, scalars, encode, encodes, scalar_cases}
use Rattle.percent_encoding.proofs.PercentLemmas.{IsByte}
use Rattle.name_parts.proofs.ByteLemmas.{encode-bytes}
use Rattle.base64.specs.Tables.{is_inverse}
use Rattle.base64.specs.Engines.{standard}
use Rattle.base64.specs.GeneralPurpose.{encode_of, decode_of, decoded_of, IsBytes}
use Rattle.base64.specs.Decode.{or_else, symbol_error, group_error, group_bytes, groups_error, groups_bytes, decode_group, push_leftover, scan, scan_steps, scan_last, scan_bytes, no_leftover, decoded_bytes, decode_outcome, lone_error, groups_before_last}
use Rattle.base64.specs.declared.decode.DecodeError.{DecodeError}
use Rattle.base64.specs.declared.engine.general_purpose.GeneralPurpose.{GeneralPurpose}
use Rattle.base64.proofs.Tables.{are_tables_inverse, encode-decode_table, IsDecodeTable_from}
use Rattle.base64.proofs.Decoding.{IsLeftover, IsLeftover_next}
use Rattle.base64.proofs.EngineFacts.{decode_of_bytes, decode_of_strict}

-- ---- text

small_scalar : (c : ℕ) → scalar c ≡ true → c < 1_114_112
small_scalar c e = ⊎_elim (λ (low : c < 55_296). omega arith) (λ high. high.1) (scalar_cases c e)

encodes-bytes : (cs : List ℕ) → scalars cs ≡ true → All IsByte (encodes cs)
encodes-bytes [] e = All-nil IsByte
encodes-bytes (c ∷ cs) e =
    let parts = and_parts _ _ e in
    All-append IsByte (encode c) (encodes cs) (encode-bytes c (small_scalar c parts.0)) (encodes-bytes cs parts.1)

each_byte : (bs : List ℕ) → All IsByte bs → IsBytes bs
each_byte [] all i = omega arith
each_byte (b ∷ bs) all zero = All-head IsByte b bs all
each_byte (b ∷ bs) all (suc i) = each_byte bs (All-tail IsByte b bs all) i

pub text_bytes : (text : List ℕ) → IsUtf8 text → IsBytes text
text_bytes text (cs, valid) = each_byte text (subst (λ (bs : List ℕ). All IsByte bs) valid.1 (encodes-bytes cs valid.0))

-- ---- lists of bytes

nil_bytes : IsBytes []
nil_bytes i = omega arith

cons_bytes : (b : ℕ) (bs : List ℕ) → b < 256 → IsBytes bs → IsBytes (b ∷ bs)
cons_bytes b bs lt are zero = lt
cons_bytes b bs lt are (suc i) = are i

append_bytes : (a b : List ℕ) → IsBytes a → IsBytes b → IsBytes (a ++ b)
append_bytes [] b are also = also
append_bytes (x ∷ a) b are also = cons_bytes x (a ++ b) (are 0) (append_bytes a b (λ i. are (suc i)) also)

take_bytes : (n : ℕ) (bs : List ℕ) → IsBytes bs → IsBytes (take n bs)
take_bytes zero bs are = nil_bytes
take_bytes (suc n) [] are = nil_bytes
take_bytes (suc n) (b ∷ bs) are = cons_bytes b (take n bs) (are 0) (take_bytes n bs (λ i. are (suc i)))

drop_bytes : (n : ℕ) (bs : List ℕ) → IsBytes bs → IsBytes (drop n bs)
drop_bytes zero bs are = are
drop_bytes (suc n) [] are = nil_bytes
drop_bytes (suc n) (b ∷ bs) are = drop_bytes n bs (λ i. are (suc i))

-- ---- groups

group_are : (a b c d : ℕ) → a < 64 → b < 64 → c < 64 → d < 64 → IsBytes (decode_group a b c d)
group_are a b c d fa fb fc fd =
    cons_bytes (a * 4 + b / 16) ((b % 16 * 16 + c / 4) ∷ (c % 4 * 64 + d) ∷ []) (omega arith)
    (cons_bytes (b % 16 * 16 + c / 4) ((c % 4 * 64 + d) ∷ []) (omega arith) (cons_bytes (c % 4 * 64 + d) [] (omega arith) nil_bytes))

neither : (x y : Option DecodeError) → or_else x y ≡ None → (x ≡ None) × (y ≡ None)
neither None y h = (refl, h)
neither (Some e) y h = cc h

symbol_of : (enc dec s : List ℕ) (i : ℕ) → is_inverse enc dec ≡ true → IsBytes s → symbol_error dec s i ≡ None → slice_index dec (slice_index s i) < 64
symbol_of enc dec s i inverse are none = elim (encode-decode_table enc dec inverse (slice_index s i) (are i)) [
  | inl bad ↦ cc (rw bad at none)
  | inr good ↦ good.0
]

groups_are : (enc dec s : List ℕ) (q : ℕ) → is_inverse enc dec ≡ true → IsBytes s → groups_error dec s q ≡ None → IsBytes (groups_bytes dec s q)
unfolding groups_error groups_bytes
groups_are enc dec s zero inverse are none = nil_bytes
groups_are enc dec s (suc q) inverse are none =
    let i : ℕ = 4 * q in
    let both = neither (groups_error dec s q) (group_error dec s i) none in
    let p0 = neither (symbol_error dec s i) _ both.1 in
    let p1 = neither (symbol_error dec s (i + 1)) _ p0.1 in
    let p2 = neither (symbol_error dec s (i + 2)) (symbol_error dec s (i + 3)) p1.1 in
    append_bytes (groups_bytes dec s q) (group_bytes dec s i) (groups_are enc dec s q inverse are both.0)
    (group_are _ _ _ _ (symbol_of enc dec s i inverse are p0.0) (symbol_of enc dec s (i + 1) inverse are p1.0)
    (symbol_of enc dec s (i + 2) inverse are p2.0) (symbol_of enc dec s (i + 3) inverse are p2.1))

-- ---- the last group

after : (dec : List ℕ) (pad at i : ℕ) (bs : List ℕ) (x r : _) → ((next : _) → x ≡ Ok next → scan dec pad at next i bs ≡ r → IsBytes (scan_bytes r))
    → scan_steps dec pad at x i bs ≡ r → IsBytes (scan_bytes r)
unfolding scan_steps
after dec pad at i bs (Ok next) r law h = law next refl h
after dec pad at i bs (Err e) r law h = subst (λ (y : Result _ DecodeError). IsBytes (scan_bytes y)) h nil_bytes

scanned : (enc dec : List ℕ) (pad at : ℕ) (st : _) (i : ℕ) (bs : List ℕ) (r : _) → is_inverse enc dec ≡ true → IsBytes bs
    → IsLeftover st i → scan dec pad at st i bs ≡ r → IsBytes (scan_bytes r)
unfolding scan_steps
scanned enc dec pad at st i [] r inverse are left e =
    subst (λ (x : Result _ DecodeError). IsBytes (scan_bytes x)) e (take_bytes _ _ (group_are _ _ _ _ (left.3 0) (left.3 1) (left.3 2) (left.3 3)))
scanned enc dec pad at st i (b ∷ bs) r inverse are left e =
    after dec pad at (i + 1) bs (push_leftover dec pad at st i b) r
    (λ next pushed h. scanned enc dec pad at next (i + 1) bs r inverse (λ k. are (suc k)) (IsLeftover_next dec pad at st i b next (IsDecodeTable_from enc dec inverse) left (are 0) pushed) h)
    e

zeros : (k : ℕ) → slice_index (0 ∷ 0 ∷ 0 ∷ 0 ∷ []) k < 64
zeros zero = omega arith
zeros (suc zero) = omega arith
zeros (suc (suc zero)) = omega arith
zeros (suc (suc (suc zero))) = omega arith
zeros (suc (suc (suc (suc k)))) = omega arith

last_are : (enc dec : List ℕ) (pad at : ℕ) (s : List ℕ) → is_inverse enc dec ≡ true → IsBytes s → IsBytes (scan_bytes (scan_last dec pad at s))
last_are enc dec pad at s inverse are =
    scanned enc dec pad at no_leftover 0 (drop at s) (scan_last dec pad at s) inverse (drop_bytes at s are) (omega arith, omega arith, omega arith, zeros) refl

-- ---- the whole

outcome : (x : Option DecodeError) (d b : List ℕ) → decode_outcome x d ≡ Ok b → x ≡ None
outcome None d b h = refl
outcome (Some e) d b h = cc h

all_are : (enc dec s : List ℕ) (pad : ℕ) → is_inverse enc dec ≡ true → IsBytes s → groups_error dec s (groups_before_last (length s)) ≡ None → IsBytes (decoded_bytes dec pad s)
all_are enc dec s pad inverse are none =
    append_bytes (groups_bytes dec s (groups_before_last (length s))) _ (groups_are enc dec s (groups_before_last (length s)) inverse are none)
    (last_are enc dec pad (4 * groups_before_last (length s)) s inverse are)

engine_are : (e : GeneralPurpose) (s b : List ℕ) → IsBytes s → decode_of e s ≡ Ok b → IsBytes b
engine_are e s b are ok =
    let none = outcome _ _ b ok in
    let rest = neither (lone_error e.decode_table e.padding.value s) _ none in
    let groups = neither (groups_error e.decode_table s (groups_before_last (length s))) _ rest.1 in
    decode_of_bytes e s b (all_are e.encode_table e.decode_table s e.padding.value (are_tables_inverse e.encode_table e.decode_table e.padding.value e.tables) are groups.0) ok

ok_of : (r : Result (List ℕ) DecodeError) (b : List ℕ) → result_ok r ≡ Some b → r ≡ Ok b
ok_of (Ok c) b e = cc
ok_of (Err x) b e = absurd cc

decoded_ok : (e : GeneralPurpose) (s b : List ℕ) → decoded_of e s ≡ Some b → decode_of e s ≡ Ok b
unfolding decoded_of
decoded_ok e s b h = ok_of (decode_of e s) b h

-- what a text decodes to are bytes, and it is their encoding
pub decoded_are : (s b : List ℕ) → IsUtf8 s → decoded_of standard s ≡ Some b → IsBytes b × (s ≡ encode_of standard b)
decoded_are s b utf8 some =
    let are = text_bytes s utf8 in
    let ok = decoded_ok standard s b some in
    (engine_are standard s b are ok, decode_of_strict standard s b (refl, refl) are ok)
