-- A text has no fault as an escaped part just where it is the one spelling of a part.
use Rattle.std.proofs.Common.{◌≡◌, ℕ, zero, suc, min, ◌+◌, ◌*◌, ◌/◌, ◌%◌, ◌<◌, ◌≤◌, All, Bool, true, false, cond, List, [], ◌∷◌, ◌++◌, length, take, drop, map, nat_lt, inl, inr, option_map, Option, Some, None, refl, sym, ap, subst, ◌∙◌, arith, add-zero, zero-add, one-add, length-append}
use Rattle.std.specs.Prelude.{◌==◌}
use Rattle.std.specs.Char.{digit_value, is_digit}
use Rattle.percent_encoding.specs.Percent.{is_escape, percent_decode, percent_encode_byte}
use Rattle.percent_encoding.proofs.PercentLemmas.{IsByte, round_trip, percent_encode_nonempty}
use Rattle.std.specs.Fmt.{digit_glyph}
use Rattle.std.proofs.lemmas.List.{nil_from_length}
use Rattle.std.proofs.lemmas.List.Elements.{All-head, All-tail}
use Rattle.std.specs.Option.{option_or}
use Rattle.std.specs.List.{flat_map, list_all, prefix_len}
use Rattle.std.specs.Cmp.Lexicographic.{bytes_decides}
use Rattle.std.proofs.lemmas.Bool.{and_from, and_parts, ltb-false, le-ltb, ne_eqb, eq-eqb, cases_Bool}
use Rattle.std.proofs.lemmas.Bool.Decides.{nat_tests}
use Rattle.name_parts.specs.declared.faults.NameFault.{NameFault}
use Rattle.name_parts.specs.Escapes.{spelled, is_plain, is_spelling, misspelt, spelling, escaped, good_len, fault_there, first_fault, escaped_fault}
use Rattle.name_parts.specs.Spellings.{front_len, front_byte, front_fault, is_at, spelling_fault}
use Rattle.name_parts.specs.declared.escapes.TheConstants.{NAME_SET}
use Rattle.name_parts.proofs.SpellingLemmas.{percent_encode-is}
use Rattle.name_parts.specs.declared.faults.NameFault.TheVariants.{Empty, TooLong, BadByte}
use Rattle.name_parts.specs.declared.parts.PartForm.{PartForm}
use Rattle.name_parts.specs.Parts.{IsPart, most_bytes, has_letters, bad_place}
use Rattle.name_parts.proofs.PartLemmas.{bad_place-None, letters-bad_place, has_letters-nil}

-- one byte on
pub spelled-step : (text : List ℕ) → 0 < length text → spelled text ≡ (front_byte text, take (front_len text) text) ∷ spelled (drop (front_len text) text)
unfolding spelled
spelled-step [] some = absurd (omega arith)
spelled-step (b ∷ []) some = refl
spelled-step (b ∷ c ∷ []) some = refl
spelled-step (b ∷ high ∷ low ∷ rest) some =
    elim (is_escape b high low) as (λ t. ◌≡◌ {A = List (ℕ × List ℕ)} (cond t ((16 * digit_value high + digit_value low, b ∷ high ∷ low ∷ []) ∷ spelled rest) ((b, b ∷ []) ∷ spelled (high ∷ low ∷ rest)))
    ((cond t (16 * digit_value high + digit_value low) b, take (cond t 3 1) (b ∷ high ∷ low ∷ rest)) ∷ spelled (drop (cond t 3 1) (b ∷ high ∷ low ∷ rest)))) [
      | true ↦ refl
      | false ↦ refl
    ]

pub spelled-at : (rest piece behind : List ℕ) (byte len : ℕ) → 0 < length rest → byte ≡ front_byte rest → len ≡ front_len rest → piece ≡ take len rest → behind ≡ drop len rest → spelled rest ≡ (byte, piece) ∷ spelled behind
spelled-at rest piece behind byte len some is_byte is_len is_piece is_behind =
    rw (is_behind, is_piece, is_byte, is_len) (spelled-step rest some)

pub spelled-nil : spelled [] ≡ []
unfolding spelled
spelled-nil = refl

-- a fault at the front, or none there
pub fault-front : (bad : Option ℕ) (index place byte : ℕ) (piece : List ℕ) (ss : List (ℕ × List ℕ)) (f : NameFault) → front_fault (byte, piece) place (is_at bad index) ≡ Some f → spelling_fault bad index place ((byte, piece) ∷ ss) ≡ Some f
fault-front bad index place byte piece ss f e = ap (λ (o : Option NameFault). option_or o (spelling_fault bad (index + 1) (place + length piece) ss)) e

pub fault-behind : (bad : Option ℕ) (index place byte : ℕ) (piece : List ℕ) (ss : List (ℕ × List ℕ)) → front_fault (byte, piece) place (is_at bad index) ≡ None → spelling_fault bad index place ((byte, piece) ∷ ss) ≡ spelling_fault bad (index + 1) (place + length piece) ss
fault-behind bad index place byte piece ss e = ap (λ (o : Option NameFault). option_or o (spelling_fault bad (index + 1) (place + length piece) ss)) e

pub not_empty : (text : List ℕ) (t : Bool) → t ≡ (length text == 0) → t ≡ false → 0 < length text
not_empty text t e f = grind (arith, nat_tests)

pub empty : (text : List ℕ) (t : Bool) → t ≡ (length text == 0) → t ≡ true → text ≡ []
empty text t e f = nil_from_length text (grind (arith, nat_tests))

-- what is spelled is the decoded bytes, and the spellings are the text
pub values : (text : List ℕ) → map (λ s. s.0) (spelled text) ≡ percent_decode text
unfolding spelled percent_decode
values [] = refl
values (b ∷ []) = refl
values (b ∷ c ∷ []) = refl
values (b ∷ high ∷ low ∷ rest) =
    elim (is_escape b high low) as (λ t. ◌≡◌ {A = List ℕ} (map (λ s. s.0) (cond t ((16 * digit_value high + digit_value low, b ∷ high ∷ low ∷ []) ∷ spelled rest) ((b, b ∷ []) ∷ spelled (high ∷ low ∷ rest))))
    (cond t ((16 * digit_value high + digit_value low) ∷ percent_decode rest) (b ∷ percent_decode (high ∷ low ∷ rest)))) [
      | true ↦ ap (λ (bs : List ℕ). (16 * digit_value high + digit_value low) ∷ bs) (values rest)
      | false ↦ ap (λ (bs : List ℕ). b ∷ bs) (values (high ∷ low ∷ rest))
    ]

pub texts : (text : List ℕ) → flat_map (λ s. s.1) (spelled text) ≡ text
unfolding spelled
texts [] = refl
texts (b ∷ []) = refl
texts (b ∷ c ∷ []) = refl
texts (b ∷ high ∷ low ∷ rest) =
    elim (is_escape b high low) as (λ t. ◌≡◌ {A = List ℕ} (flat_map (λ s. s.1) (cond t ((16 * digit_value high + digit_value low, b ∷ high ∷ low ∷ []) ∷ spelled rest) ((b, b ∷ []) ∷ spelled (high ∷ low ∷ rest)))) (b ∷ high ∷ low ∷ rest)) [
      | true ↦ ap (λ (bs : List ℕ). b ∷ high ∷ low ∷ bs) (texts rest)
      | false ↦ ap (λ (bs : List ℕ). b ∷ bs) (texts (high ∷ low ∷ rest))
    ]

abbrev pub is_right : ℕ × List ℕ → Bool
is_right s = is_spelling s.1 s.0

front-None : (s : ℕ × List ℕ) (place : ℕ) (is_bad : Bool) → front_fault s place is_bad ≡ None → is_right s ≡ true
front-None s place is_bad =
    elim (is_spelling s.1 s.0) as (λ t. cond t (cond is_bad (Some (BadByte place)) None) (Some (misspelt s.1 place)) ≡ None → t ≡ true) [
      | true ↦ λ e. refl
      | false ↦ λ e. cc
    ]

either_None : (f g : Option NameFault) → option_or f g ≡ None → (f ≡ None) × (g ≡ None)
either_None None g e = (refl, e)
either_None (Some f) g e = cc

no_bad : (bad : Option ℕ) (place : ℕ) → option_map (λ _. BadByte place) bad ≡ None → bad ≡ None
no_bad None place e = refl
no_bad (Some b) place e = cc

spelling_fault-None : (bad : Option ℕ) (index place : ℕ) (ss : List (ℕ × List ℕ)) → spelling_fault bad index place ss ≡ None → (bad ≡ None) × (list_all is_right ss ≡ true)
spelling_fault-None bad index place [] e = (no_bad bad place e, refl)
spelling_fault-None bad index place (s ∷ ss) e =
    let parts = either_None (front_fault s place (is_at bad index)) (spelling_fault bad (index + 1) (place + length s.1) ss) e in
    let rest = spelling_fault-None bad (index + 1) (place + length s.1) ss parts.1 in
    (rest.0, and_from _ _ (front-None s place (is_at bad index) parts.0) rest.1)

pub all_right : (ss : List (ℕ × List ℕ)) → list_all is_right ss ≡ true → flat_map (λ s. s.1) ss ≡ flat_map (spelling) (map (λ s. s.0) ss)
all_right [] e = refl
all_right (s ∷ ss) e =
    let parts = and_parts _ _ e in
    let one : s.1 ≡ spelling s.0 = (bytes_decides s.1 (spelling s.0)).0 parts.0 in
    let rest = all_right ss parts.1 in
    ap (λ (bs : List ℕ). bs ++ flat_map (λ t. t.1) ss) one ∙ ap (λ (bs : List ℕ). spelling s.0 ++ bs) rest

-- what the reading from left to right finds is the first fault

shifted_place : ℕ → Option ℕ → Option ℕ
shifted_place n bad = option_map (λ k. k + n) bad

-- the bytes before the first that is misspelt, where there is none at the front
pub right_on : (s : ℕ × List ℕ) (ss : List (ℕ × List ℕ)) → is_right s ≡ true → prefix_len is_right (s ∷ ss) ≡ suc (prefix_len is_right ss)
right_on s ss right = rw right (one-add (prefix_len is_right ss))

pub wrong_stop : (s : ℕ × List ℕ) (ss : List (ℕ × List ℕ)) → is_right s ≡ false → prefix_len is_right (s ∷ ss) ≡ 0
wrong_stop s ss wrong = rw wrong refl

-- what stands behind the first n bytes, and where
abbrev behind_fault : Option ℕ → ℕ → ℕ → List (ℕ × List ℕ) → Option NameFault
behind_fault bad place n ss = fault_there bad (drop n ss) (place + length (flat_map (λ (s : ℕ × List ℕ). s.1) (take n ss)))

nothing_left : (bad : Option ℕ) (n place : ℕ) → behind_fault bad place n [] ≡ option_map (λ _. BadByte place) bad
nothing_left bad zero place = rw (add-zero place) refl
nothing_left bad (suc n) place = rw (add-zero place) refl

behind_on : (bad : Option ℕ) (place n : ℕ) (s : ℕ × List ℕ) (ss : List (ℕ × List ℕ)) → behind_fault bad place (suc n) (s ∷ ss) ≡ behind_fault bad (place + length s.1) n ss
behind_on bad place n s ss =
    let whole : place + length (s.1 ++ flat_map (λ t. t.1) (take n ss)) ≡ place + length s.1 + length (flat_map (λ t. t.1) (take n ss)) = omega (arith, length-append s.1 (flat_map (λ t. t.1) (take n ss))) in
    ap (fault_there bad (drop n ss)) whole

good-wrong : (bad : Option ℕ) (s : ℕ × List ℕ) (ss : List (ℕ × List ℕ)) → is_right s ≡ false → good_len bad (s ∷ ss) ≡ 0
good-wrong None s ss wrong = wrong_stop s ss wrong
good-wrong (Some bad) s ss wrong = omega (arith, wrong_stop s ss wrong)

good-right : (bad : ℕ) (s : ℕ × List ℕ) (ss : List (ℕ × List ℕ)) → is_right s ≡ true → good_len (Some (suc bad)) (s ∷ ss) ≡ suc (good_len (Some bad) ss)
good-right bad s ss right = omega (arith, right_on s ss right)

read_wrong : (bad : Option ℕ) (index place : ℕ) (s : ℕ × List ℕ) (ss : List (ℕ × List ℕ)) → is_right s ≡ false → spelling_fault (shifted_place index bad) index place (s ∷ ss) ≡ behind_fault bad place (good_len bad (s ∷ ss)) (s ∷ ss)
read_wrong bad index place s ss wrong =
    let read : spelling_fault (shifted_place index bad) index place (s ∷ ss) ≡ Some (misspelt s.1 place) = rw wrong refl in
    let there : behind_fault bad place 0 (s ∷ ss) ≡ Some (misspelt s.1 place) = rw (add-zero place, wrong) refl in
    read ∙ sym there ∙ ap (λ n. behind_fault bad place n (s ∷ ss)) (sym (good-wrong bad s ss wrong))

-- what is found from the next byte on
abbrev FoundBehind : List (ℕ × List ℕ) → Type 0
FoundBehind ss = (bad : Option ℕ) (index place : ℕ) → spelling_fault (shifted_place index bad) index place ss ≡ behind_fault bad place (good_len bad ss) ss

read_right : (bad : Option ℕ) (index place : ℕ) (s : ℕ × List ℕ) (ss : List (ℕ × List ℕ)) → is_right s ≡ true → FoundBehind ss → spelling_fault (shifted_place index bad) index place (s ∷ ss) ≡ behind_fault bad place (good_len bad (s ∷ ss)) (s ∷ ss)
unfolding shifted_place
read_right None index place s ss right found =
    let none : front_fault s place false ≡ None = rw right refl in
    ap (λ (o : Option NameFault). option_or o (spelling_fault None (index + 1) (place + length s.1) ss)) none
    ∙ found None (index + 1) (place + length s.1) ∙ sym (behind_on None place (good_len None ss) s ss)
    ∙ ap (λ n. behind_fault None place n (s ∷ ss)) (sym (right_on s ss right))
read_right (Some zero) index place s ss right found =
    let same = eq-eqb (0 + index) index (zero-add index) in
    let some : front_fault s place (is_at (Some (0 + index)) index) ≡ Some (BadByte place) = rw (right, same) refl in
    let zero_len : good_len (Some 0) (s ∷ ss) ≡ 0 = omega arith in
    let there : behind_fault (Some 0) place 0 (s ∷ ss) ≡ Some (BadByte place) = rw (add-zero place, right) refl in
    ap (λ (o : Option NameFault). option_or o (spelling_fault (Some (0 + index)) (index + 1) (place + length s.1) ss)) some
    ∙ sym there ∙ ap (λ n. behind_fault (Some 0) place n (s ∷ ss)) (sym zero_len)
read_right (Some (suc bad)) index place s ss right found =
    let other : (suc bad + index == index) ≡ false = ne_eqb (suc bad + index) index (λ e. omega (arith, e)) in
    let none : front_fault s place (is_at (Some (suc bad + index)) index) ≡ None = rw (right, other) refl in
    let next : suc bad + index ≡ bad + (index + 1) = omega arith in
    ap (λ (o : Option NameFault). option_or o (spelling_fault (Some (suc bad + index)) (index + 1) (place + length s.1) ss)) none
    ∙ ap (λ k. spelling_fault (Some k) (index + 1) (place + length s.1) ss) next
    ∙ found (Some bad) (index + 1) (place + length s.1) ∙ sym (behind_on (Some (suc bad)) place (good_len (Some bad) ss) s ss)
    ∙ ap (λ n. behind_fault (Some (suc bad)) place n (s ∷ ss)) (sym (good-right bad s ss right))

read_from : (bad : Option ℕ) (index place : ℕ) (ss : List (ℕ × List ℕ)) → spelling_fault (shifted_place index bad) index place ss ≡ behind_fault bad place (good_len bad ss) ss
unfolding shifted_place
read_from None index place [] = sym (nothing_left None 0 place)
read_from (Some bad) index place [] = sym (nothing_left (Some bad) (min bad 0) place)
read_from bad index place (s ∷ ss) =
    elim (cases_Bool (is_right s)) [
      | inl right ↦ read_right bad index place s ss right (λ b i p. read_from b i p ss)
      | inr wrong ↦ read_wrong bad index place s ss wrong
    ]

pub read_first : (bad : Option ℕ) (ss : List (ℕ × List ℕ)) → spelling_fault bad 0 0 ss ≡ first_fault bad ss
unfolding shifted_place
read_first None ss = read_from None 0 0 ss ∙ rw (zero-add (length (flat_map (λ s. s.1) (take (good_len None ss) ss)))) refl
read_first (Some bad) ss =
    ap (λ k. spelling_fault (Some k) 0 0 ss) (sym (add-zero bad)) ∙ read_from (Some bad) 0 0 ss
    ∙ rw (zero-add (length (flat_map (λ s. s.1) (take (good_len (Some bad) ss) ss)))) refl

-- a text that has no fault as a whole
no_fault : (most len : ℕ) (bad : Option ℕ) (ss : List (ℕ × List ℕ)) → cond (nat_lt most len) (Some (TooLong len)) (first_fault bad ss) ≡ None → (len ≤ most) × (bad ≡ None) × (list_all is_right ss ≡ true)
no_fault most len bad ss =
    elim (nat_lt most len) as (λ t. nat_lt most len ≡ t → cond t (Some (TooLong len)) (first_fault bad ss) ≡ None → (len ≤ most) × (bad ≡ None) × (list_all is_right ss ≡ true)) [
      | true ↦ λ is e. cc
      | false ↦ λ is e. let both = spelling_fault-None bad 0 0 ss (read_first bad ss ∙ e) in (ltb-false most len is, both.0, both.1)
    ] refl

unless_empty : (b : ℕ) (bs : List ℕ) (f : Option NameFault) → cond (length (b ∷ bs) == 0) (Some Empty) f ≡ None → f ≡ None
unless_empty b bs f e = grind (arith, nat_tests)

spelled_right : (text : List ℕ) → list_all is_right (spelled text) ≡ true → text ≡ escaped (percent_decode text)
unfolding escaped
spelled_right text right =
    sym (texts text) ∙ all_right (spelled text) right ∙ ap (flat_map (spelling)) (values text)

pub escaped_fault-None : (form : PartForm) (text : List ℕ) → escaped_fault form text ≡ None → (text ≡ escaped (percent_decode text)) × IsPart form (percent_decode text)
unfolding escaped_fault
escaped_fault-None form [] e = cc
escaped_fault-None form (b ∷ bs) e =
    let value = percent_decode (b ∷ bs) in
    let none = no_fault (most_bytes form) (length value) (bad_place form value) (spelled (b ∷ bs)) (unless_empty b bs _ e) in
    (spelled_right (b ∷ bs) none.2, record { letters = bad_place-None form value none.1; most = none.0 })

-- the same, where the value is decoded and its first bad place found
pub right_value : (form : PartForm) (text value : List ℕ) (bad : Option ℕ) → escaped_fault form text ≡ first_fault (bad_place form (percent_decode text)) (spelled text) → value ≡ percent_decode text → bad ≡ bad_place form value → first_fault bad (spelled text) ≡ None → (text ≡ escaped value) × IsPart form value
right_value form text value bad judged is_value is_bad none =
    let same : bad_place form (percent_decode text) ≡ bad = ap (bad_place form) (sym is_value) ∙ sym is_bad in
    let right = escaped_fault-None form text (judged ∙ ap (λ (o : Option ℕ). first_fault o (spelled text)) same ∙ none) in
    subst (λ (v : List ℕ). (text ≡ escaped v) × IsPart form v) (sym is_value) right

-- the other way round

digit_glyph-is : (d : ℕ) → d < 16 → (is_digit (digit_glyph true d) 16 ≡ true) × (digit_value (digit_glyph true d) ≡ d)
digit_glyph-is d small = (grind (arith, nat_tests), grind (arith, nat_tests))

escape_step : (h l b : ℕ) (rest : List ℕ) → is_escape 37 h l ≡ true → 16 * digit_value h + digit_value l ≡ b → spelled (37 ∷ h ∷ l ∷ rest) ≡ (b, 37 ∷ h ∷ l ∷ []) ∷ spelled rest
unfolding spelled
escape_step h l b rest escape value = rw (escape, value) refl

spelled_escape : (b : ℕ) (rest : List ℕ) → b < 256 → spelled (percent_encode_byte b ++ rest) ≡ (b, percent_encode_byte b) ∷ spelled rest
unfolding percent_encode_byte
spelled_escape b rest small =
    let high = digit_glyph-is (b / 16 % 16) (omega arith) in
    let low = digit_glyph-is (b % 16) (omega arith) in
    let value : 16 * digit_value (digit_glyph true (b / 16 % 16)) + digit_value (digit_glyph true (b % 16)) ≡ b = omega (arith, high.1, low.1) in
    let escape : is_escape 37 (digit_glyph true (b / 16 % 16)) (digit_glyph true (b % 16)) ≡ true = and_from _ _ high.0 low.0 in
    escape_step (digit_glyph true (b / 16 % 16)) (digit_glyph true (b % 16)) b rest escape value

spelled_itself : (b : ℕ) (rest : List ℕ) → (b == 37) ≡ false → spelled (b ∷ rest) ≡ (b, b ∷ []) ∷ spelled rest
unfolding spelled
spelled_itself b [] other = refl
spelled_itself b (c ∷ []) other = refl
spelled_itself b (c ∷ d ∷ rest) other = rw other refl

-- what stands as itself is no `%`
other_than_percent : (b : ℕ) → is_plain b ≡ true → (b == 37) ≡ false
other_than_percent b plain = grind (arith, nat_tests)

pub spelled_byte : (b : ℕ) (rest : List ℕ) → b < 256 → spelled (spelling b ++ rest) ≡ (b, spelling b) ∷ spelled rest
unfolding spelling
spelled_byte b rest small =
    elim (is_plain b) as (λ t. is_plain b ≡ t → spelled (cond t (b ∷ []) (percent_encode_byte b) ++ rest) ≡ (b, cond t (b ∷ []) (percent_encode_byte b)) ∷ spelled rest) [
      | true ↦ λ is. spelled_itself b rest (other_than_percent b is)
      | false ↦ λ is. spelled_escape b rest small
    ] refl

spelled_all : (bs : List ℕ) → All IsByte bs → spelled (escaped bs) ≡ map (λ b. (b, spelling b)) bs
unfolding escaped
spelled_all [] small = spelled-nil
spelled_all (b ∷ bs) small =
    spelled_byte b (flat_map (spelling) bs) (All-head IsByte b bs small) ∙ ap (λ (ss : List (ℕ × List ℕ)). (b, spelling b) ∷ ss) (spelled_all bs (All-tail IsByte b bs small))

right_all : (bs : List ℕ) → list_all is_right (map (λ b. (b, spelling b)) bs) ≡ true
right_all [] = refl
right_all (b ∷ bs) = and_from _ _ ((bytes_decides (spelling b) (spelling b)).1 refl) (right_all bs)

right-fault : (index place : ℕ) (ss : List (ℕ × List ℕ)) → list_all is_right ss ≡ true → spelling_fault None index place ss ≡ None
right-fault index place [] e = refl
right-fault index place (s ∷ ss) e =
    let parts = and_parts _ _ e in
    let spells : is_spelling s.1 s.0 ≡ true = (and_parts (is_right s) (list_all is_right ss) e).0 in
    let here : front_fault s place false ≡ None = rw spells refl in
    ap (λ (o : Option NameFault). option_or o (spelling_fault None (index + 1) (place + length s.1) ss)) here ∙ right-fault (index + 1) (place + length s.1) ss parts.1

combined : (n most len : ℕ) (f : Option NameFault) → 0 < n → len ≤ most → f ≡ None → cond (n == 0) (Some Empty) (cond (nat_lt most len) (Some (TooLong len)) f) ≡ None
combined n most len f some few none = rw (ne_eqb n 0 (λ e. omega arith), le-ltb most len few) none

some_bytes : (form : PartForm) (bs : List ℕ) → IsPart form bs → 0 < length bs
some_bytes form [] part = let no = has_letters-nil form in let right : has_letters form [] ≡ true = part.letters in cc
some_bytes form (b ∷ bs) part = omega arith

-- the one spelling of bytes, read again
pub decoded : (bs : List ℕ) → All IsByte bs → percent_decode (escaped bs) ≡ bs
decoded bs small = ap percent_decode (sym (percent_encode-is bs)) ∙ round_trip NAME_SET bs refl small

some_spelling : (bs : List ℕ) → 0 < length bs → 0 < length (escaped bs)
some_spelling bs some = rw (percent_encode-is bs) at (percent_encode_nonempty NAME_SET bs some)

-- the one spelling of a part
pub escaped-fault : (form : PartForm) (bs : List ℕ) → All IsByte bs → IsPart form bs → escaped_fault form (escaped bs) ≡ None
unfolding escaped_fault
escaped-fault form bs small part =
    let back : percent_decode (escaped bs) ≡ bs = decoded bs small in
    let right : list_all is_right (spelled (escaped bs)) ≡ true = ap (list_all is_right) (spelled_all bs small) ∙ right_all bs in
    let none : bad_place form (percent_decode (escaped bs)) ≡ None = ap (bad_place form) back ∙ letters-bad_place form bs part.letters in
    let few : length (percent_decode (escaped bs)) ≤ most_bytes form = omega (arith, ap length back, part.most) in
    let faultless = sym (read_first _ (spelled (escaped bs))) ∙ ap (λ (o : Option ℕ). spelling_fault o 0 0 (spelled (escaped bs))) none ∙ right-fault 0 0 (spelled (escaped bs)) right in
    combined (length (escaped bs)) (most_bytes form) (length (percent_decode (escaped bs))) _ (some_spelling bs (some_bytes form bs part)) few faultless
