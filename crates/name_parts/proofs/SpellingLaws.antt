-- The place of an escaped part's fault is the first that breaks the grammar.
use Rattle.std.proofs.Common.{◌≡◌, ◌⊎◌, ℕ, zero, suc, ◌≤◌, true, false, min, cond, List, [], ◌∷◌, ◌++◌, length, take, drop, nat_lt, inl, inr, Option, Some, None, refl, sym, ap, subst, ◌∙◌, arith, take-append-drop, append_assoc, length-append}
use Rattle.std.specs.Prelude.{◌==◌}
use Rattle.std.specs.List.{flat_map, list_all, prefix_len}
use Rattle.std.specs.Cmp.Lexicographic.{bytes_decides}
use Rattle.std.proofs.lemmas.Bool.{and_from, cases_Bool, cases_lt, both_ways, ltb-false}
use Rattle.std.proofs.lemmas.Grind.{flat_map-append}
use Rattle.std.proofs.lemmas.List.{take-take, take-map}
use Rattle.std.proofs.Math.Seq.{take-append_seam, drop-append_seam}
use Rattle.percent_encoding.specs.Percent.{percent_decode}
use Rattle.name_parts.specs.declared.faults.NameFault.{NameFault}
use Rattle.name_parts.specs.declared.faults.NameFault.TheVariants.{Empty, TooLong, BadByte, NotCanonical}
use Rattle.name_parts.specs.declared.parts.PartForm.{PartForm}
use Rattle.name_parts.specs.Grammar.{GoesOn}
use Rattle.name_parts.specs.Parts.{IsPart, bad_place, has_letters, most_bytes, place_of}
use Rattle.name_parts.specs.Escapes.{escaped, escaped_fault, fault_there, first_fault, good_len, misspelt, spelled, spelling}
use Rattle.name_parts.specs.Spellings.{front_len}
use Rattle.name_parts.specs.Laws.{BeginsNoSpelling, EscapesBreakFirst, IsEscaped, IsFirstBadSpelling}
use Rattle.name_parts.proofs.PartLemmas.{bad_place-None}
use Rattle.name_parts.proofs.SpellingLemmas.{escaped-append}
use Rattle.name_parts.proofs.EscapeLemmas.{all_right, decoded, escaped-fault, is_right, right_on, spelled-nil, spelled-step, spelled_byte, texts, values, wrong_stop}
use Rattle.name_parts.proofs.ByteLemmas.{letters-bytes}
use Rattle.name_parts.proofs.FrontLemmas.{front_goes_on}

abbrev flat : List (ℕ × List ℕ) → List ℕ
flat ss = flat_map (λ (s : ℕ × List ℕ). s.1) ss

-- ---- the bytes before the fault

right_before : (ss : List (ℕ × List ℕ)) (n : ℕ) → n ≤ prefix_len is_right ss → list_all is_right (take n ss) ≡ true
right_before ss zero few = refl
right_before [] (suc n) few = refl
right_before (s ∷ ss) (suc n) few =
    elim (cases_Bool (is_right s)) [
      | inl right ↦ and_from (is_right s) _ right (right_before ss n (omega (arith, right_on s ss right)))
      | inr wrong ↦ absurd (omega (arith, few, wrong_stop s ss wrong))
    ]

few_good : (bad : Option ℕ) (ss : List (ℕ × List ℕ)) → good_len bad ss ≤ prefix_len is_right ss
few_good None ss = omega arith
few_good (Some bad) ss = omega arith

spelled_front : (text : List ℕ) (n : ℕ) → n ≤ prefix_len is_right (spelled text) → flat (take n (spelled text)) ≡ escaped (take n (percent_decode text))
unfolding escaped
spelled_front text n few =
    all_right (take n (spelled text)) (right_before (spelled text) n few)
    ∙ ap (flat_map spelling) (sym (take-map (λ (s : ℕ × List ℕ). s.0) n (spelled text)) ∙ ap (take n) (values text))

both_parts : (text : List ℕ) (n : ℕ) → flat (take n (spelled text)) ++ flat (drop n (spelled text)) ≡ text
both_parts text n =
    sym (flat_map-append (λ (s : ℕ × List ℕ). s.1) (take n (spelled text)) (drop n (spelled text))) ∙ ap flat (take-append-drop n (spelled text)) ∙ texts text

-- ---- what stands there

tail_read : (text : List ℕ) (s : ℕ × List ℕ) (ss : List (ℕ × List ℕ)) → spelled text ≡ s ∷ ss → ss ≡ spelled (flat ss)
tail_read [] s ss e = let none = spelled-nil in absurd cc
tail_read (b ∷ bs) s ss e =
    let rest = drop (front_len (b ∷ bs)) (b ∷ bs) in
    let tail : ss ≡ spelled rest = ap (drop 1) (sym e ∙ spelled-step (b ∷ bs) (omega arith)) in
    tail ∙ sym (ap spelled (ap flat tail ∙ texts rest))

-- what stands behind so many spellings is read the same again
abbrev ReadsBehind : ℕ → List (ℕ × List ℕ) → Type 0
ReadsBehind n ss = spelled (flat (drop n ss)) ≡ drop n ss

read_tail : (n : ℕ) (text : List ℕ) (ss : List (ℕ × List ℕ)) → ((t : List ℕ) → ReadsBehind n (spelled t)) → spelled text ≡ ss → ReadsBehind (suc n) ss
read_tail n text [] behind e = spelled-nil
read_tail n text (s ∷ ss) behind e = subst (ReadsBehind n) (sym (tail_read text s ss e)) (behind (flat ss))

read_behind : (n : ℕ) (text : List ℕ) → ReadsBehind n (spelled text)
read_behind zero text = ap spelled (texts text)
read_behind (suc n) text = read_tail n text (spelled text) (read_behind n) refl

nothing_begins : BeginsNoSpelling []
nothing_begins b rest small e = let some = spelled_byte b rest small in let none = spelled-nil in let same = ap spelled e in absurd cc

misspelt_begins : (s : ℕ × List ℕ) (ss : List (ℕ × List ℕ)) → spelled (flat (s ∷ ss)) ≡ s ∷ ss → is_right s ≡ false → BeginsNoSpelling (flat (s ∷ ss))
misspelt_begins s ss read wrong b rest small e =
    let same : s ∷ ss ≡ (b, spelling b) ∷ spelled rest = sym read ∙ ap spelled e ∙ spelled_byte b rest small in
    let first : s ≡ (b, spelling b) = cc in
    both_ways (is_right s) wrong (ap is_right first ∙ (bytes_decides (spelling b) (spelling b)).1 refl)

wrong_there : (ss : List (ℕ × List ℕ)) (s : ℕ × List ℕ) (rest : List (ℕ × List ℕ)) → drop (prefix_len is_right ss) ss ≡ s ∷ rest → is_right s ≡ false
wrong_there [] s rest e = absurd cc
wrong_there (x ∷ xs) s rest e =
    elim (cases_Bool (is_right x)) [
      | inl right ↦ wrong_there xs s rest (rw (right_on x xs right) at e)
      | inr wrong ↦ let same : x ∷ xs ≡ s ∷ rest = rw (wrong_stop x xs wrong) at e in let first : x ≡ s = cc in ap is_right (sym first) ∙ wrong
    ]

bad_there : (bad : Option ℕ) (ss : List (ℕ × List ℕ)) (s : ℕ × List ℕ) (rest : List (ℕ × List ℕ)) → drop (good_len bad ss) ss ≡ s ∷ rest → is_right s ≡ true → bad ≡ Some (good_len bad ss)
bad_there None ss s rest e right = absurd (both_ways (is_right s) (wrong_there ss s rest e) right)
bad_there (Some bad) ss s rest e right =
    elim (cases_lt bad (prefix_len is_right ss)) [
      | inl less ↦ ap Some (omega (arith, less))
      | inr more ↦
          let all : min bad (prefix_len is_right ss) ≡ prefix_len is_right ss = omega (arith, more) in
          absurd (both_ways (is_right s) (wrong_there ss s rest (rw all at e)) right)
    ]

stands_there : (bad : Option ℕ) (n : ℕ) (ss there : List (ℕ × List ℕ)) → n ≡ good_len bad ss → ReadsBehind n ss → drop n ss ≡ there → (bad ≡ Some n) ⊎ BeginsNoSpelling (flat (drop n ss))
stands_there bad n ss [] is read e = inr (subst (λ t. BeginsNoSpelling (flat t)) (sym e) nothing_begins)
stands_there bad n ss (s ∷ rest) is read e =
    elim (cases_Bool (is_right s)) [
      | inl right ↦ inl (bad_there bad ss s rest (ap (λ k. drop k ss) (sym is) ∙ e) right ∙ ap Some (sym is))
      | inr wrong ↦ inr (subst (λ t. BeginsNoSpelling (flat t)) (sym e) (misspelt_begins s rest (ap (λ t. spelled (flat t)) (sym e) ∙ read ∙ e) wrong))
    ]

-- ---- where it stands

misspelt_place : (text : List ℕ) (place : ℕ) → place_of (misspelt text place) ≡ place
misspelt_place [] place = refl
misspelt_place (b ∷ bs) place =
    elim (b == 37) as (λ t. place_of (cond t (NotCanonical place) (BadByte place)) ≡ place) [
      | true ↦ refl
      | false ↦ refl
    ]

fault_there_place : (bad : Option ℕ) (ss : List (ℕ × List ℕ)) (place : ℕ) (f : NameFault) → fault_there bad ss place ≡ Some f → place ≡ place_of f
fault_there_place None [] place f e = absurd cc
fault_there_place (Some bad) [] place f e = let same : BadByte place ≡ f = cc in ap place_of same
fault_there_place bad (s ∷ ss) place f e =
    elim (is_right s) as (λ t. Some (cond t (BadByte place) (misspelt s.1 place)) ≡ Some f → place ≡ place_of f) [
      | true ↦ λ g. let same : BadByte place ≡ f = cc in ap place_of same
      | false ↦ λ g. let same : misspelt s.1 place ≡ f = cc in sym (misspelt_place s.1 place) ∙ ap place_of same
    ] e

-- ---- some part goes on so

shorter_front : (form : PartForm) (text : List ℕ) (n most : ℕ) → n ≤ most → GoesOn (λ t. has_letters form t ≡ true) (take most text) → GoesOn (λ t. has_letters form t ≡ true) (take n text)
shorter_front form text n most few on =
    let parted : take most text ≡ take n text ++ drop n (take most text) = sym (take-append-drop n (take most text)) ∙ ap (λ t. t ++ drop n (take most text)) (take-take n most text few) in
    record {
      rest = drop n (take most text) ++ on.rest;
      whole = ap (has_letters form) (sym (append_assoc (take n text) (drop n (take most text)) on.rest) ∙ ap (λ t. t ++ on.rest) (sym parted)) ∙ on.whole;
    }

value_goes_on : (form : PartForm) (value : List ℕ) (bad : Option ℕ) (n : ℕ) (ss : List (ℕ × List ℕ)) → bad_place form value ≡ bad → n ≡ good_len bad ss → GoesOn (λ t. has_letters form t ≡ true) (take n value)
value_goes_on form value None n ss is len = record { rest = drop n value; whole = ap (has_letters form) (take-append-drop n value) ∙ bad_place-None form value is }
value_goes_on form value (Some bad) n ss is len = shorter_front form value n bad (omega (arith, len)) (front_goes_on form value bad is)

escaped_goes_on : (form : PartForm) (front value : List ℕ) → front ≡ escaped value → GoesOn (λ t. has_letters form t ≡ true) value → GoesOn (IsEscaped form) front
escaped_goes_on form front value e on = record {
  rest = escaped on.rest;
  whole = (value ++ on.rest, ap (λ t. t ++ escaped on.rest) e ∙ sym (escaped-append value on.rest), on.whole);
}

-- ---- and this text is no escaped part

few_bytes : (most len : ℕ) (found : Option NameFault) (f : NameFault) → cond (nat_lt most len) (Some (TooLong len)) found ≡ Some f → (f ≡ TooLong len) ⊎ ((len ≤ most) × (found ≡ Some f))
few_bytes most len found f =
    elim (nat_lt most len) as (λ t. nat_lt most len ≡ t → cond t (Some (TooLong len)) found ≡ Some f → (f ≡ TooLong len) ⊎ ((len ≤ most) × (found ≡ Some f))) [
      | true ↦ λ is e. inl (let same : TooLong len ≡ f = cc in sym same)
      | false ↦ λ is e. inr (ltb-false most len is, e)
    ] refl

some_bytes : (n : ℕ) (found : Option NameFault) (f : NameFault) → cond (n == 0) (Some Empty) found ≡ Some f → (f ≡ Empty) ⊎ (found ≡ Some f)
some_bytes n found f =
    elim (n == 0) as (λ t. cond t (Some Empty) found ≡ Some f → (f ≡ Empty) ⊎ (found ≡ Some f)) [
      | true ↦ λ e. inl (let same : Empty ≡ f = cc in sym same)
      | false ↦ λ e. inr e
    ]

-- a fault that names a place is one of the bytes
record IsPlaced (f : NameFault) : Type 0 where
  full : ¬ (f ≡ Empty)
  short : (len : ℕ) → ¬ (f ≡ TooLong len)

placed : (f : NameFault) (place : ℕ) → (f ≡ BadByte place) ⊎ (f ≡ NotCanonical place) → IsPlaced f × (place_of f ≡ place)
placed f place e =
    elim e [
      | inl is ↦ (record { full = λ g. cc; short = λ len g. cc }, ap place_of is)
      | inr is ↦ (record { full = λ g. cc; short = λ len g. cc }, ap place_of is)
    ]

of_bytes : (form : PartForm) (text : List ℕ) (f : NameFault) → IsPlaced f → escaped_fault form text ≡ Some f → (length (percent_decode text) ≤ most_bytes form) × (first_fault (bad_place form (percent_decode text)) (spelled text) ≡ Some f)
unfolding escaped_fault
of_bytes form text f is e =
    elim (some_bytes (length text) _ f e) [
      | inl empty ↦ absurd (is.full empty)
      | inr some ↦ elim (few_bytes (most_bytes form) (length (percent_decode text)) _ f some) [
        | inl long ↦ absurd (is.short (length (percent_decode text)) long)
        | inr few ↦ few
      ]
    ]

no_escaped : (form : PartForm) (text : List ℕ) (f : NameFault) → length (percent_decode text) ≤ most_bytes form → escaped_fault form text ≡ Some f → ¬ IsEscaped form text
no_escaped form text f few e is =
    let small = letters-bytes form is.0 is.2 in
    let back : percent_decode text ≡ is.0 = ap percent_decode is.1 ∙ decoded is.0 small in
    let part : IsPart form is.0 = record { letters = is.2; most = omega (arith, ap length back, few) } in
    let none = ap (escaped_fault form) is.1 ∙ escaped-fault form is.0 small part in
    absurd cc

breaks_first : (form : PartForm) (text : List ℕ) (f : NameFault) → IsPlaced f → escaped_fault form text ≡ Some f → IsFirstBadSpelling form text (place_of f)
breaks_first form text f is e =
    let value = percent_decode text in
    let ss = spelled text in
    let found = of_bytes form text f is e in
    let bad = bad_place form value in
    let n = good_len bad ss in
    let front = flat (take n ss) in
    let whole = both_parts text n in
    let there : length front ≡ place_of f = fault_there_place bad (drop n ss) (length front) f found.1 in
    let begins : take (place_of f) text ≡ front = ap (λ k. take k text) (sym there) ∙ ap (take (length front)) (sym whole) ∙ take-append_seam front (flat (drop n ss)) in
    let ends : drop (place_of f) text ≡ flat (drop n ss) = ap (λ k. drop k text) (sym there) ∙ ap (drop (length front)) (sym whole) ∙ drop-append_seam front (flat (drop n ss)) in
    let spells = begins ∙ spelled_front text n (few_good bad ss) in
    record {
      within = omega (arith, there, ap length whole, length-append front (flat (drop n ss)));
      before = escaped_goes_on form (take (place_of f) text) (take n value) spells (value_goes_on form value bad n ss refl refl);
      len = n;
      spells = spells;
      here = subst (λ (t : List ℕ). (bad ≡ Some n) ⊎ BeginsNoSpelling t) (sym ends) (stands_there bad n ss (drop n ss) refl (read_behind n text) refl);
      itself = no_escaped form text f found.0 e;
    }

pub escapes_break_first : EscapesBreakFirst
escapes_break_first form text place e =
    elim e [
      | inl is ↦ breaks_first form text (BadByte place) (placed (BadByte place) place (inl refl)).0 is
      | inr is ↦ breaks_first form text (NotCanonical place) (placed (NotCanonical place) place (inr refl)).0 is
    ]
