-- What a text of base64 decodes to are bytes, and UTF-8 is bytes.
use Rattle.std.proofs.Common.{◌≡◌, ℕ, zero, suc, ◌+◌, ◌*◌, ◌/◌, ◌==◌, ◌<◌, Bool, true, false, cond, All, inl, inr, IsUtf8, List, [], ◌∷◌, ◌++◌, length, take, drop, slice_index, refl, sym, subst, ◌∙◌, arith}
use lib.Utf8.{scalar, scalars, encode, encodes, scalar_cases}
use Rattle.percent_encoding.proofs.PercentLemmas.{IsByte}
use Rattle.name_parts.proofs.ByteLemmas.{encode-bytes}
use Rattle.std.proofs.Common.{⊎_elim}
use Rattle.std.proofs.lemmas.Bool.{and_parts, eq-eqb}
use Rattle.std.proofs.lemmas.List.Elements.{All-nil, All-append, All-head, All-tail}
use Rattle.std.specs.Result.{result_ok}
use Rattle.std.specs.declared.option.Option.{Option}
use Rattle.std.specs.declared.option.Option.TheVariants.{None, Some}
use Rattle.std.specs.declared.result.Result.{Result}
use Rattle.std.specs.declared.result.Result.TheVariants.{Ok, Err}
use Rattle.base64.specs.declared.decode.DecodeError.{DecodeError}
use Rattle.base64.specs.declared.decode.DecodeError.TheVariants.{InvalidByte}
use Rattle.base64.specs.declared.engine.general_purpose.GeneralPurpose.{GeneralPurpose}
use Rattle.base64.specs.Decode.{IsDecodeTable, decode_group, decode_outcome, group_bytes, group_error, groups_before_last, groups_bytes, groups_error, leftover_bytes, lone_error, no_leftover, or_else, push_leftover, scan, scan_bytes, scan_error, scan_steps, suffix_error, symbol_error}
use Rattle.base64.specs.GeneralPurpose.{IsBytes, IsStrict, decode_of, decoded_of, encode_of}
use Rattle.base64.proofs.Decoding.{IsLeftover, IsLeftover_next}
use Rattle.base64.proofs.EngineFacts.{decode_of_bytes, decode_of_strict}
use Rattle.base64.proofs.Tables.{IsDecodeTable_from, are_tables_inverse}

-- lists of bytes
joined : (a b : List ℕ) → IsBytes a → IsBytes b → IsBytes (a ++ b)
joined [] b one two i = two i
joined (x ∷ a) b one two zero = one 0
joined (x ∷ a) b one two (suc i) = joined a b (λ k. one (suc k)) two i

front : (n : ℕ) (a : List ℕ) → IsBytes a → IsBytes (take n a)
front zero a are i = omega arith
front (suc n) [] are i = omega arith
front (suc n) (x ∷ a) are zero = are 0
front (suc n) (x ∷ a) are (suc i) = front n a (λ k. are (suc k)) i

back : (n : ℕ) (a : List ℕ) → IsBytes a → IsBytes (drop n a)
back zero a are = are
back (suc n) [] are = are
back (suc n) (x ∷ a) are = back n a (λ k. are (suc k))

group_are : (a b c d : ℕ) → a < 64 → b < 64 → c < 64 → d < 64 → IsBytes (decode_group a b c d)
group_are a b c d one two three four zero = omega arith
group_are a b c d one two three four (suc zero) = omega arith
group_are a b c d one two three four (suc (suc zero)) = omega arith
group_are a b c d one two three four (suc (suc (suc i))) = omega arith

-- a first error that is none
neither : (x y : Option DecodeError) → or_else x y ≡ None → (x ≡ None) × (y ≡ None)
neither None y h = (refl, h)
neither (Some e) y h = absurd cc

no_error : (i b : ℕ) (t : Bool) → cond t (Some (InvalidByte i b)) None ≡ None → t ≡ false
no_error i b true h = absurd cc
no_error i b false h = refl

symbol_small : (dec s : List ℕ) (i : ℕ) → IsDecodeTable dec → IsBytes s → symbol_error dec s i ≡ None → slice_index dec (slice_index s i) < 64
symbol_small dec s i table are none =
    let other : (slice_index dec (slice_index s i) == 255) ≡ false = no_error i (slice_index s i) (slice_index dec (slice_index s i) == 255) none in
    elim (table (slice_index s i) (are i)) [
      | inl last ↦ let same : (slice_index dec (slice_index s i) == 255) ≡ true = eq-eqb _ 255 last in absurd cc
      | inr small ↦ small
    ]

groups_are : (dec s : List ℕ) (q : ℕ) → IsDecodeTable dec → IsBytes s → groups_error dec s q ≡ None → IsBytes (groups_bytes dec s q)
unfolding groups_error groups_bytes
groups_are dec s zero table are none = λ i. omega arith
groups_are dec s (suc q) table are none =
    let both = neither (groups_error dec s q) (group_error dec s (4 * q)) none in
    let one = neither (symbol_error dec s (4 * q)) (or_else (symbol_error dec s (4 * q + 1)) (or_else (symbol_error dec s (4 * q + 2)) (symbol_error dec s (4 * q + 3)))) both.1 in
    let two = neither (symbol_error dec s (4 * q + 1)) (or_else (symbol_error dec s (4 * q + 2)) (symbol_error dec s (4 * q + 3))) one.1 in
    let three = neither (symbol_error dec s (4 * q + 2)) (symbol_error dec s (4 * q + 3)) two.1 in
    joined (groups_bytes dec s q) (group_bytes dec s (4 * q)) (groups_are dec s q table are both.0)
    (group_are _ _ _ _ (symbol_small dec s (4 * q) table are one.0) (symbol_small dec s (4 * q + 1) table are two.0)
    (symbol_small dec s (4 * q + 2) table are three.0) (symbol_small dec s (4 * q + 3) table are three.1))

-- what the scan of the last symbols keeps
same_ok : {A E : Type 0} (x y : A) (r s : Result A E) → r ≡ Ok x → s ≡ Ok y → r ≡ s → x ≡ y
same_ok {A} {E} x y r s one two e = let both : ◌≡◌ {A = Result A E} (Ok x) (Ok y) = sym one ∙ e ∙ two in cc

stopped : (dec : List ℕ) (pad at i : ℕ) (st fin : _) → scan dec pad at st i [] ≡ Ok fin → st ≡ fin
unfolding scan_steps
stopped dec pad at i st fin h = same_ok st fin (Ok st) (Ok fin) refl refl h

opened : (dec : List ℕ) (pad at i b : ℕ) (bs : List ℕ) (st : _) → scan dec pad at st i (b ∷ bs) ≡ scan_steps dec pad at (push_leftover dec pad at st i b) (i + 1) bs
unfolding scan_steps
opened dec pad at i b bs st = refl

failed : (dec : List ℕ) (pad at i : ℕ) (bs : List ℕ) (x : DecodeError) (fin : _) → scan_steps dec pad at (Err x) i bs ≡ Ok fin → ⊥
unfolding scan_steps
failed dec pad at i bs x fin h = cc

after_step : (dec : List ℕ) (pad at i b : ℕ) (bs : List ℕ) (st fin : _) (P : Type 0)
    → ((next : _) → push_leftover dec pad at st i b ≡ Ok next → scan dec pad at next (i + 1) bs ≡ Ok fin → P)
    → (r : Result _ DecodeError) → push_leftover dec pad at st i b ≡ r → scan_steps dec pad at r (i + 1) bs ≡ Ok fin → P
after_step dec pad at i b bs st fin P law (Ok next) pushed h = law next pushed h
after_step dec pad at i b bs st fin P law (Err x) pushed h = absurd (failed dec pad at (i + 1) bs x fin h)

scanned : (dec : List ℕ) (pad at : ℕ) (st fin : _) (i : ℕ) (bs : List ℕ) → IsDecodeTable dec → IsBytes bs → IsLeftover st i
    → scan dec pad at st i bs ≡ Ok fin → (j : ℕ) × IsLeftover fin j
scanned dec pad at st fin i [] table are held e = (i, subst (λ x. IsLeftover x i) (stopped dec pad at i st fin e) held)
scanned dec pad at st fin i (b ∷ bs) table are held e =
    after_step dec pad at i b bs st fin ((j : ℕ) × IsLeftover fin j)
    (λ next pushed h. scanned dec pad at next fin (i + 1) bs table (λ k. are (suc k)) (IsLeftover_next dec pad at st i b next table held (are 0) pushed) h)
    (push_leftover dec pad at st i b) refl (sym (opened dec pad at i b bs st) ∙ e)

leftover_are : (st : _) (j : ℕ) → IsLeftover st j → IsBytes (leftover_bytes st)
leftover_are st j held = front (st.morsels_count * 6 / 8) _ (group_are _ _ _ _ (held.3 0) (held.3 1) (held.3 2) (held.3 3))

zeros : (k : ℕ) → slice_index (0 ∷ 0 ∷ 0 ∷ 0 ∷ []) k < 64
zeros zero = omega arith
zeros (suc zero) = omega arith
zeros (suc (suc zero)) = omega arith
zeros (suc (suc (suc zero))) = omega arith
zeros (suc (suc (suc (suc k)))) = omega arith

last_are : (empty allow : Bool) (at : ℕ) (mode : _) (r : Result _ DecodeError) → ((fin : _) → r ≡ Ok fin → (j : ℕ) × IsLeftover fin j)
    → scan_error empty at allow mode r ≡ None → IsBytes (scan_bytes r)
last_are empty allow at mode (Ok st) law none = let held = law st refl in leftover_are st held.0 held.1
last_are empty allow at mode (Err x) law none = absurd cc

no_outcome : (x : Option DecodeError) (bytes b : List ℕ) → decode_outcome x bytes ≡ Ok b → x ≡ None
no_outcome None bytes b e = refl
no_outcome (Some x) bytes b e = absurd cc

decoded_are : (e : GeneralPurpose) (s b : List ℕ) → IsBytes s → decode_of e s ≡ Ok b → IsBytes b
decoded_are e s b are ok =
    let dec : List ℕ = e.decode_table in
    let pad : ℕ = e.padding.value in
    let q : ℕ = groups_before_last (length s) in
    let table = IsDecodeTable_from e.encode_table dec (are_tables_inverse e.encode_table dec pad e.tables) in
    let last : Option DecodeError = suffix_error dec pad e.config.decode_allow_trailing_bits e.config.decode_padding_mode (4 * q) s in
    let all = neither (lone_error dec pad s) (or_else (groups_error dec s q) last) (no_outcome _ _ b ok) in
    let parts = neither (groups_error dec s q) last all.1 in
    decode_of_bytes e s b
    (joined (groups_bytes dec s q) _ (groups_are dec s q table are parts.0)
    (last_are (length s == 0) e.config.decode_allow_trailing_bits (4 * q) e.config.decode_padding_mode _
    (λ fin scanned_to. scanned dec pad (4 * q) no_leftover fin 0 (drop (4 * q) s) table (back (4 * q) s are) (omega arith, omega arith, omega arith, zeros) scanned_to) parts.1)) ok

some_outcome : (r : Result (List ℕ) DecodeError) (b : List ℕ) → result_ok r ≡ Some b → r ≡ Ok b
some_outcome (Ok x) b e = cc
some_outcome (Err x) b e = absurd cc

-- a text that decodes is the encoding of these bytes
pub decoded_is : (e : GeneralPurpose) (s b : List ℕ) → IsStrict e → IsBytes s → decoded_of e s ≡ Some b → (s ≡ encode_of e b) × IsBytes b
unfolding decoded_of
decoded_is e s b strict are some =
    let ok = some_outcome (decode_of e s) b some in
    (decode_of_strict e s b strict are ok, decoded_are e s b are ok)

-- texts
small_scalar : (c : ℕ) → scalar c ≡ true → c < 1_114_112
small_scalar c e = ⊎_elim (λ (low : c < 55_296). omega arith) (λ high. high.1) (scalar_cases c e)

encodes_are : (cs : List ℕ) → scalars cs ≡ true → All IsByte (encodes cs)
encodes_are [] e = All-nil IsByte
encodes_are (c ∷ cs) e =
    let parts = and_parts _ _ e in
    All-append IsByte (encode c) (encodes cs) (encode-bytes c (small_scalar c parts.0)) (encodes_are cs parts.1)

utf8_are : (text : List ℕ) → IsUtf8 text → All IsByte text
utf8_are text (cs, valid) = subst (λ (bs : List ℕ). All IsByte bs) valid.1 (encodes_are cs valid.0)

each_below : (bs : List ℕ) → All IsByte bs → IsBytes bs
each_below [] all i = omega arith
each_below (b ∷ bs) all zero = All-head IsByte b bs all
each_below (b ∷ bs) all (suc i) = each_below bs (All-tail IsByte b bs all) i

pub utf8_bytes : (text : List ℕ) → IsUtf8 text → IsBytes text
utf8_bytes text is = each_below text (utf8_are text is)
