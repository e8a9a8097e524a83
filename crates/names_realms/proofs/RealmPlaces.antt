-- The bad place of a realm is the first that breaks the grammar.
use Rattle.std.proofs.Common.{◌≡◌, ◌⊎◌, ℕ, suc, ◌+◌, ◌<◌, ◌≤◌, Bool, true, false, not, nat_eq, nat_lt, cond, List, [], ◌∷◌, ◌++◌, length, take, drop, codes, Option, Some, None, option_map, inl, inr, refl, sym, ap, subst, ◌∙◌, arith, lit≤, one-add, add-one, append_assoc, append-nil, length-append, length-take, length-take-le, take-append-drop}
use Rattle.std.specs.Prelude.{◌==◌}
use Rattle.std.specs.Option.{option_or}
use Rattle.std.specs.List.{list_all, common_prefix_len}
use Rattle.std.proofs.lemmas.Bool.{and_parts, and_from, both_ways, eqb-true, eq-eqb, ltb-false, cases_Bool, cases_lt, not-true}
use Rattle.std.proofs.lemmas.List.{take_all, take-append-le}
use Rattle.std.proofs.Math.Seq.{take-append-add}
use Rattle.name_parts.specs.declared.alphabets.Alphabet.{Alphabet}
use Rattle.name_parts.specs.declared.alphabets.Alphabet.TheVariants as alphabet
use Rattle.name_parts.specs.declared.faults.NameFault.{NameFault}
use Rattle.name_parts.specs.declared.faults.NameFault.TheVariants.{Empty, TooLong, BadByte}
use Rattle.name_parts.specs.declared.parts.PartForm.TheVariants.{Letters}
use Rattle.name_parts.specs.Alphabets.{may_follow}
use Rattle.name_parts.specs.Grammar.{GoesOn, IsFirstBadPlace}
use Rattle.name_parts.specs.Parts.{IsPart, alphabet_place, has_alphabet, limited_fault, literal_bad_place, shifted, unempty_fault}
use Rattle.name_parts.proofs.CutLemmas.{cut_is, literal_bad_place-literal}
use Rattle.name_parts.proofs.PartLemmas.{unempty_fault-None}
use Rattle.std.proofs.lemmas.List.Sums.{prefix_len-le-length}
use Rattle.name_parts.proofs.PlaceLaws.{letters_break_first}
use Rattle.names_realms.specs.Realms.{IsRealm, IsSubrealm, bad_subrealm_place, colon_fault, project_len, realm_fault}
use Rattle.names_realms.specs.Laws.{RealmBreaksFirst}
use Rattle.name_parts.proofs.CutLaws.{Lacks, cut_alike}
use Rattle.names_realms.proofs.RealmLemmas.{IsRealm-realm_fault, filled, no_at, project_without_colon}

abbrev root : List ℕ
root = codes "@root"

-- ---- fronts of parts

all_front : (p : ℕ → Bool) (xs ys : List ℕ) → list_all p (xs ++ ys) ≡ true → list_all p xs ≡ true
all_front p [] ys e = refl
all_front p (x ∷ xs) ys e = let parts = and_parts _ _ e in and_from _ _ parts.0 (all_front p xs ys parts.1)

front_part : (of : Alphabet) (x : ℕ) (xs ys : List ℕ) → has_alphabet of (x ∷ xs ++ ys) ≡ true → has_alphabet of (x ∷ xs) ≡ true
front_part of x xs ys e = let parts = and_parts _ _ e in and_from _ _ parts.0 (all_front (may_follow of) xs ys parts.1)

-- ---- what stands behind the colon

a_letter : IsSubrealm (97 ∷ [])
a_letter = inr (record { letters = refl; most = lit≤ tt })

no_empty : ¬ IsSubrealm []
no_empty (inl e) = absurd cc
no_empty (inr part) = absurd (let without : false ≡ true = part.letters in cc)

begins_no_part : (b : ℕ) (bs : List ℕ) → (b == 64) ≡ true → ¬ IsPart (Letters alphabet.Subrealm) (b ∷ bs)
begins_no_part b bs e part = both_ways (b == 64) (no_at b (and_parts _ _ part.letters).0) e

begins_no_root : (b : ℕ) (bs : List ℕ) → (b == 64) ≡ false → ¬ ((b ∷ bs) ≡ root)
begins_no_root b bs e is = let same : b ≡ 64 = cc in both_ways (b == 64) e (eq-eqb b 64 same)

common_front : (xs ys : List ℕ) → take (common_prefix_len nat_eq xs ys) xs ++ drop (common_prefix_len nat_eq xs ys) ys ≡ ys
common_front [] ys = refl
common_front (x ∷ xs) [] = refl
common_front (x ∷ xs) (y ∷ ys) =
    elim (cases_Bool (nat_eq x y)) [
      | inl e ↦ let same : x ≡ y = eqb-true x y e in rw (e, one-add (common_prefix_len nat_eq xs ys)) (ap (λ z. z ∷ (take (common_prefix_len nat_eq xs ys) xs ++ drop (common_prefix_len nat_eq xs ys) ys)) same ∙ ap (λ t. y ∷ t) (common_front xs ys))
      | inr e ↦ rw e refl
    ]

common_few : (xs ys : List ℕ) → common_prefix_len nat_eq xs ys ≤ length xs
common_few [] ys = omega arith
common_few (x ∷ xs) [] = omega arith
common_few (x ∷ xs) (y ∷ ys) =
    elim (cases_Bool (nat_eq x y)) [
      | inl e ↦ rw (e, one-add (common_prefix_len nat_eq xs ys)) (omega (arith, common_few xs ys))
      | inr e ↦ rw e (omega arith)
    ]

common_longest : (xs ys rest : List ℕ) → common_prefix_len nat_eq xs ys < length xs → ¬ (take (common_prefix_len nat_eq xs ys + 1) xs ++ rest ≡ ys)
common_longest [] ys rest few e = absurd (omega (arith, few))
common_longest (x ∷ xs) [] rest few e = absurd cc
common_longest (x ∷ xs) (y ∷ ys) rest few e =
    elim (cases_Bool (nat_eq x y)) [
      | inl same ↦
          let n = common_prefix_len nat_eq xs ys in
          let step : common_prefix_len nat_eq (x ∷ xs) (y ∷ ys) ≡ suc n = rw same (one-add n) in
          let count : common_prefix_len nat_eq (x ∷ xs) (y ∷ ys) + 1 ≡ suc (n + 1) = omega (arith, step) in
          common_longest xs ys rest (omega (arith, step, few)) (ap (drop 1) (ap (λ k. take k (x ∷ xs) ++ rest) (sym count) ∙ e))
      | inr other ↦
          let step : common_prefix_len nat_eq (x ∷ xs) (y ∷ ys) ≡ 0 = rw other refl in
          let count : common_prefix_len nat_eq (x ∷ xs) (y ∷ ys) + 1 ≡ 1 = omega (arith, step) in
          let whole : x ∷ rest ≡ y ∷ ys = ap (λ k. take k (x ∷ xs) ++ rest) (sym count) ∙ e in
          let first : x ≡ y = cc in
          both_ways (nat_eq x y) other (eq-eqb x y first)
    ]

bad_is : (t : Bool) (n j : ℕ) → cond t None (Some n) ≡ Some j → n ≡ j
bad_is true n j e = absurd cc
bad_is false n j e = cc

one_byte_more : (b : ℕ) (bs : List ℕ) (j : ℕ) (rest : List ℕ) → take (j + 1) (b ∷ bs) ++ rest ≡ b ∷ (take j bs ++ rest)
one_byte_more b bs j rest = ap (λ k. take k (b ∷ bs) ++ rest) (add-one j)

at_root : (b : ℕ) (bs : List ℕ) (j : ℕ) → (b == 64) ≡ true → literal_bad_place root (b ∷ bs) ≡ Some j → IsFirstBadPlace IsSubrealm (b ∷ bs) j
at_root b bs j e is =
    let count : common_prefix_len nat_eq (b ∷ bs) root ≡ j = bad_is _ _ j is in
    record {
      within = omega (arith, count, common_few (b ∷ bs) root);
      before = record { rest = drop j root; whole = inl (ap (λ k. take k (b ∷ bs) ++ drop k root) (sym count) ∙ common_front (b ∷ bs) root) };
      here = λ less on. elim on.whole [
        | inl r ↦ common_longest (b ∷ bs) root on.rest (omega (arith, count, less)) (ap (λ k. take (k + 1) (b ∷ bs) ++ on.rest) count ∙ r)
        | inr part ↦ begins_no_part b (take j bs ++ on.rest) e (subst (λ (t : List ℕ). IsPart (Letters alphabet.Subrealm) t) (one_byte_more b bs j on.rest) part)
      ];
      itself = λ on. elim on [
        | inl r ↦ absurd (let none : literal_bad_place root (b ∷ bs) ≡ None = ap (literal_bad_place root) r ∙ literal_bad_place-literal root in cc)
        | inr part ↦ begins_no_part b bs e part
      ];
    }

letters_before : (xs : List ℕ) → length xs ≤ 400 → GoesOn (λ t. has_alphabet alphabet.Subrealm t ≡ true) xs → GoesOn IsSubrealm xs
letters_before [] few on = record { rest = 97 ∷ []; whole = a_letter }
letters_before (x ∷ xs) few on =
    let part : IsPart (Letters alphabet.Subrealm) (x ∷ xs) = record { letters = front_part alphabet.Subrealm x xs on.rest on.whole; most = few } in
    record { rest = []; whole = inr (subst (λ (t : List ℕ). IsPart (Letters alphabet.Subrealm) t) (sym (append-nil (x ∷ xs))) part) }

at_letters : (b : ℕ) (bs : List ℕ) (j : ℕ) → (b == 64) ≡ false → length (b ∷ bs) ≤ 400 → alphabet_place alphabet.Subrealm (b ∷ bs) ≡ Some j → IsFirstBadPlace IsSubrealm (b ∷ bs) j
at_letters b bs j e few is =
    let first = letters_break_first alphabet.Subrealm (b ∷ bs) j is in
    record {
      within = first.within;
      before = letters_before (take j (b ∷ bs)) (omega (arith, few, length-take j (b ∷ bs))) first.before;
      here = λ less on. elim on.whole [
        | inl r ↦ begins_no_root b (take j bs ++ on.rest) e (sym (one_byte_more b bs j on.rest) ∙ r)
        | inr part ↦ first.here less (record { rest = on.rest; whole = part.letters })
      ];
      itself = λ on. elim on [
        | inl r ↦ begins_no_root b bs e r
        | inr part ↦ first.itself part.letters
      ];
    }

nothing_behind : IsFirstBadPlace IsSubrealm [] 0
nothing_behind = record {
  within = omega arith;
  before = record { rest = 97 ∷ []; whole = a_letter };
  here = λ less on. absurd (omega (arith, less));
  itself = no_empty;
}

subrealm_breaks : (text : List ℕ) (j : ℕ) → length text ≤ 400 → bad_subrealm_place text ≡ Some j → IsFirstBadPlace IsSubrealm text j
subrealm_breaks [] j few is = let zero_is : 0 ≡ j = cc in subst (λ k. IsFirstBadPlace IsSubrealm [] k) zero_is nothing_behind
subrealm_breaks (b ∷ bs) j few is =
    elim (b == 64) as (λ t. (b == 64) ≡ t → cond t (literal_bad_place root (b ∷ bs)) (alphabet_place alphabet.Subrealm (b ∷ bs)) ≡ Some j → IsFirstBadPlace IsSubrealm (b ∷ bs) j) [
      | true ↦ λ e f. at_root b bs j e f
      | false ↦ λ e f. at_letters b bs j e few f
    ] refl is

-- ---- the whole

realm_of : (project sub : List ℕ) → IsPart (Letters alphabet.Project) project → IsSubrealm sub → IsRealm (project ++ 58 ∷ sub)
realm_of project sub is is' = record { project = project; subrealm = sub; parts = refl; is_project = is; is_subrealm = is' }

behind_colon : (front text : List ℕ) → IsPart (Letters alphabet.Project) front → IsRealm (front ++ 58 ∷ text) → IsSubrealm text
behind_colon front text is realm =
    let cut = cut_alike 58 front realm.project text realm.subrealm (project_without_colon front is) (project_without_colon realm.project realm.is_project) realm.parts in
    subst (λ (t : List ℕ). IsSubrealm t) (sym (ap (drop 1) cut.1)) realm.is_subrealm

colon_and_more : (front rest : List ℕ) (n : ℕ) → take (length front + (1 + n)) (front ++ 58 ∷ rest) ≡ front ++ 58 ∷ take n rest
colon_and_more front rest n = take-append-add front (58 ∷ rest) (1 + n) ∙ ap (λ k. front ++ take k (58 ∷ rest)) (one-add n)

behind_project : (front rest : List ℕ) (j : ℕ) → IsPart (Letters alphabet.Project) front → IsFirstBadPlace IsSubrealm rest j → IsFirstBadPlace IsRealm (front ++ 58 ∷ rest) (length front + (1 + j))
behind_project front rest j is first = record {
  within = omega (arith, first.within, length-append front (58 ∷ rest));
  before = record {
    rest = first.before.rest;
    whole = subst IsRealm (sym (ap (λ t. t ++ first.before.rest) (colon_and_more front rest j) ∙ append_assoc front (58 ∷ take j rest) first.before.rest)) (realm_of front (take j rest ++ first.before.rest) is first.before.whole);
  };
  here = λ less on.
      (let next : length front + (1 + j) + 1 ≡ length front + (1 + (j + 1)) = omega arith in
      let shape = ap (λ k. take k (front ++ 58 ∷ rest) ++ on.rest) next ∙ ap (λ t. t ++ on.rest) (colon_and_more front rest (j + 1)) ∙ append_assoc front (58 ∷ take (j + 1) rest) on.rest in
      first.here (omega (arith, less, length-append front (58 ∷ rest))) (record { rest = on.rest; whole = behind_colon front (take (j + 1) rest ++ on.rest) is (subst IsRealm shape on.whole) }));
  itself = λ on. first.itself (behind_colon front rest is on);
}

-- a project that has a bad byte, or none

project_longer : (xs rest project sub : List ℕ) → Lacks 58 xs → xs ++ rest ≡ project ++ 58 ∷ sub → (more : List ℕ) × (project ≡ xs ++ more)
project_longer [] rest project sub without e = (project, refl)
project_longer (x ∷ xs) rest [] sub without e =
    absurd (let same : x ≡ 58 = cc in both_ways (x == 58) (not-true (x == 58) (and_parts _ _ without).0) (eq-eqb x 58 same))
project_longer (x ∷ xs) rest (p ∷ ps) sub without e =
    let first : p ≡ x = cc in
    let longer = project_longer xs rest ps sub (and_parts _ _ without).1 (ap (drop 1) e) in
    (longer.0, ap (λ y. y ∷ ps) first ∙ ap (λ ys. x ∷ ys) longer.1)

begins_no_realm : (c : ℕ) (rest : List ℕ) → c ≡ 58 → ¬ IsRealm (c ∷ rest)
begins_no_realm c rest is realm =
    let whole = ap (λ b. b ∷ rest) (sym is) ∙ realm.parts in
    let none = cut_alike 58 [] realm.project rest realm.subrealm refl (project_without_colon realm.project realm.is_project) whole in
    absurd (let without : false ≡ true = ap (has_alphabet alphabet.Project) none.0 ∙ realm.is_project.letters in cc)

project_before : (xs : List ℕ) → length xs ≤ 100 → GoesOn (λ t. has_alphabet alphabet.Project t ≡ true) xs → GoesOn IsRealm xs
project_before [] few on = record { rest = 97 ∷ 58 ∷ 97 ∷ []; whole = realm_of (97 ∷ []) (97 ∷ []) (record { letters = refl; most = lit≤ tt }) a_letter }
project_before (x ∷ xs) few on = record {
  rest = 58 ∷ 97 ∷ [];
  whole = realm_of (x ∷ xs) (97 ∷ []) (record { letters = front_part alphabet.Project x xs on.rest on.whole; most = few }) a_letter;
}

list_front : (xs : List ℕ) (n : ℕ) → Lacks 58 xs → Lacks 58 (take n xs)
list_front xs n without = all_front (λ x. not (x == 58)) (take n xs) (drop n xs) (ap (list_all (λ x. not (x == 58))) (take-append-drop n xs) ∙ without)

inside_project : (front back : List ℕ) (place : ℕ) → Lacks 58 front → place < length front → IsFirstBadPlace (λ t. has_alphabet alphabet.Project t ≡ true) front place → ¬ GoesOn IsRealm (take (place + 1) (front ++ back))
inside_project front back place without inside first on =
    let few : place + 1 ≤ length front = omega (arith, inside) in
    let shape = ap (λ t. t ++ on.rest) (sym (take-append-le (place + 1) front back few)) in
    let parts = sym (ap (λ t. t ++ on.rest) (take-append-le (place + 1) front back few)) ∙ on.whole.parts in
    let longer = project_longer (take (place + 1) front) on.rest on.whole.project on.whole.subrealm (list_front front (place + 1) without) parts in
    first.here inside (record { rest = longer.0; whole = ap (has_alphabet alphabet.Project) (sym longer.1) ∙ on.whole.is_project.letters })

behind_whole : (front back : List ℕ) (place : ℕ) → ((c : ℕ) (cs : List ℕ) → back ≡ c ∷ cs → c ≡ 58) → place < length (front ++ back) → length front ≤ place → IsFirstBadPlace (λ t. has_alphabet alphabet.Project t ≡ true) front place → ¬ GoesOn IsRealm (take (place + 1) (front ++ back))
behind_whole [] [] place colon less beyond first on = absurd (omega (arith, less))
behind_whole [] (c ∷ cs) place colon less beyond first on =
    begins_no_realm c (take place cs ++ on.rest) (colon c cs refl) (subst IsRealm (one_byte_more c cs place on.rest) on.whole)
behind_whole (x ∷ xs) back place colon less beyond first on =
    let whole : take place (x ∷ xs) ≡ x ∷ xs = take_all place (x ∷ xs) beyond in
    first.itself (front_part alphabet.Project x xs first.before.rest (ap (λ t. has_alphabet alphabet.Project (t ++ first.before.rest)) (sym whole) ∙ first.before.whole))

in_project : (front back : List ℕ) (place : ℕ) → Lacks 58 front → ((c : ℕ) (cs : List ℕ) → back ≡ c ∷ cs → c ≡ 58) → length front ≤ 100 → alphabet_place alphabet.Project front ≡ Some place → ¬ IsRealm (front ++ back) → IsFirstBadPlace IsRealm (front ++ back) place
in_project front back place without colon few is itself =
    let first = letters_break_first alphabet.Project front place is in
    record {
      within = omega (arith, first.within, length-append front back);
      before = subst (GoesOn IsRealm) (sym (take-append-le place front back first.within)) (project_before (take place front) (omega (arith, few, length-take place front)) first.before);
      here = λ less on. elim (cases_lt place (length front)) [
        | inl inside ↦ inside_project front back place without inside first on
        | inr beyond ↦ behind_whole front back place colon less beyond first on
      ];
      itself = itself;
    }

ends_soon : (front : List ℕ) → IsPart (Letters alphabet.Project) front → ¬ IsRealm front → IsFirstBadPlace IsRealm front (length front)
ends_soon front is itself = record {
  within = omega arith;
  before = record { rest = 58 ∷ 97 ∷ []; whole = subst (λ (t : List ℕ). IsRealm (t ++ 58 ∷ 97 ∷ [])) (sym (take_all (length front) front (omega arith))) (realm_of front (97 ∷ []) is a_letter) };
  here = λ less on. absurd (omega (arith, less));
  itself = itself;
}

-- ---- which fault it is

either : (f g : Option NameFault) (x : NameFault) → option_or f g ≡ Some x → (f ≡ Some x) ⊎ ((f ≡ None) × (g ≡ Some x))
either None g x e = inr (refl, e)
either (Some f) g x e = inl e

placed : (bad : Option ℕ) (at : ℕ) → option_map BadByte bad ≡ Some (BadByte at) → bad ≡ Some at
placed None at e = absurd cc
placed (Some n) at e = let same : n ≡ at = cc in ap Some same

limited_bad : (most len : ℕ) (bad : Option ℕ) (at : ℕ) → limited_fault most len bad ≡ Some (BadByte at) → (len ≤ most) × (bad ≡ Some at)
limited_bad most len bad at =
    elim (nat_lt most len) as (λ t. nat_lt most len ≡ t → cond t (Some (TooLong len)) (option_map BadByte bad) ≡ Some (BadByte at) → (len ≤ most) × (bad ≡ Some at)) [
      | true ↦ λ is e. absurd cc
      | false ↦ λ is e. (ltb-false most len is, placed bad at e)
    ] refl

shifted_bad : (n : ℕ) (f : Option NameFault) (place : ℕ) → option_map (shifted n) f ≡ Some (BadByte place) → (j : ℕ) × (f ≡ Some (BadByte j)) × (place ≡ n + j)
shifted_bad n None place e = absurd cc
shifted_bad n (Some (BadByte j)) place e = let same : n + j ≡ place = cc in (j, refl, sym same)
shifted_bad n (Some f) place e = absurd cc

front_free : (text : List ℕ) → Lacks 58 (take (project_len text) text)
front_free [] = refl
front_free (b ∷ bs) =
    elim (cases_Bool (b == 58)) [
      | inl e ↦ rw e refl
      | inr e ↦ rw (e, one-add (project_len bs), e) (front_free bs)
    ]

behind_front : (front back : List ℕ) (place : ℕ) → IsPart (Letters alphabet.Project) front → ((c : ℕ) (cs : List ℕ) → back ≡ c ∷ cs → c ≡ 58) → colon_fault (length front) back ≡ Some (BadByte place) → ¬ IsRealm (front ++ back) → IsFirstBadPlace IsRealm (front ++ back) place
behind_front front [] place is colon e itself =
    let same : length front ≡ place = cc in
    let whole = append-nil front in
    subst (λ (t : List ℕ). IsFirstBadPlace IsRealm t place) (sym whole) (subst (λ k. IsFirstBadPlace IsRealm front k) same (ends_soon front is (λ r. itself (subst IsRealm (sym whole) r))))
behind_front front (c ∷ cs) place is colon e itself =
    let found = shifted_bad (length front + 1) _ place e in
    let bad = limited_bad 400 (length cs) (bad_subrealm_place cs) found.0 found.1 in
    let first = behind_project front cs found.0 is (subrealm_breaks cs found.0 bad.0 bad.1) in
    let same : length front + (1 + found.0) ≡ place = omega (arith, found.2) in
    subst (λ b. IsFirstBadPlace IsRealm (front ++ b ∷ cs) place) (sym (colon c cs refl)) (subst (λ k. IsFirstBadPlace IsRealm (front ++ 58 ∷ cs) k) same first)

no_realm : (text : List ℕ) (f : NameFault) → realm_fault text ≡ Some f → ¬ IsRealm text
no_realm text f e is = absurd (let none = IsRealm-realm_fault text is in cc)

parted_first : (text : List ℕ) (place : ℕ) → ¬ IsRealm text → option_or (unempty_fault (Letters alphabet.Project) (take (project_len text) text)) (colon_fault (project_len text) (drop (project_len text) text)) ≡ Some (BadByte place) → IsFirstBadPlace IsRealm text place
parted_first text place itself e =
    let front = take (project_len text) text in
    let back = drop (project_len text) text in
    let whole = take-append-drop (project_len text) text in
    let len : length front ≡ project_len text = length-take-le (project_len text) text (prefix_len-le-length (λ x. not (x == 58)) text) in
    let without = λ (is : IsRealm (front ++ back)). itself (subst IsRealm whole is) in
    subst (λ (t : List ℕ). IsFirstBadPlace IsRealm t place) whole
    (elim (either _ _ _ e) [
      | inl f ↦ let bad = limited_bad 100 (length front) (alphabet_place alphabet.Project front) place f in in_project front back place (front_free text) (cut_is 58 text) bad.0 bad.1 without
      | inr g ↦ behind_front front back place (unempty_fault-None (Letters alphabet.Project) front g.0) (cut_is 58 text) (ap (λ k. colon_fault k back) len ∙ g.1) without
    ])

pub realm_breaks_first : RealmBreaksFirst
realm_breaks_first [] place e = absurd cc
realm_breaks_first (b ∷ bs) place e = parted_first (b ∷ bs) place (no_realm (b ∷ bs) (BadByte place) e) (sym (filled (length bs) (Some Empty) _) ∙ e)
