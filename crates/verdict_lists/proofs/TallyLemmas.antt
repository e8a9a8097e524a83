-- Lists that are compared place by place, and what is so of all results at some places.
use Rattle.std.proofs.Common.{◌≡◌, ◌<◌, ◌≤◌, ◌+◌, ℕ, zero, suc, Bool, true, false, ◌&&◌, List, [], ◌∷◌, ◌++◌, length, take, drop, get_or, Option, Some, None, Ordering, refl, sym, ap, ◌∙◌, subst, inl, inr, arith}
use Rattle.std.specs.Cmp.Lexicographic.{slice_cmp}
use Rattle.std.specs.List.{cons_option, filter_map, list_all, slice_get}
use Rattle.std.specs.Ordering.{nat_cmp}
use Rattle.std.specs.declared.cmp.Ordering.TheVariants.{Less, Equal, Greater}
use Rattle.std.proofs.lemmas.Bool.{cases_lt}
use Rattle.std.proofs.lemmas.Cmp.{nat_cmp_total, tied_itself}
use Rattle.std.proofs.lemmas.List.{length-drop, take_more}
use Rattle.std.proofs.lemmas.List.Elements.{filter_map-append}
use Rattle.test_results.specs.declared.result.TestResult.{TestResult}
use Rattle.verdict_lists.specs.World.{results_at}
use Rattle.verdict_lists.proofs.EntryLemmas.{less_from_lt}

drop_past : {X : Type 0} (xs : List X) (i : ℕ) → length xs ≤ i → drop i xs ≡ []
drop_past [] zero h = refl
drop_past [] (suc i) h = refl
drop_past (x ∷ xs) zero h = absurd (omega arith)
drop_past (x ∷ xs) (suc i) h = drop_past xs i (omega arith)

above_none : {X : Type 0} (R : X → X → Ordering) (zs : List X) → 0 < length zs → slice_cmp R zs [] ≡ Greater
above_none R [] h = absurd (omega arith)
above_none R (z ∷ zs) h = refl

none_below : {X : Type 0} (R : X → X → Ordering) (zs : List X) → 0 < length zs → slice_cmp R [] zs ≡ Less
none_below R [] h = absurd (omega arith)
none_below R (z ∷ zs) h = refl

-- the second list ends first
pub longer : {X : Type 0} (R : X → X → Ordering) (xs ys : List X) (i : ℕ) → i < length xs → length ys ≤ i → slice_cmp R (drop i xs) (drop i ys) ≡ Greater
longer R xs ys i lt le =
    ap (slice_cmp R (drop i xs)) (drop_past ys i le) ∙ above_none R (drop i xs) (omega (arith, length-drop i xs))

-- the first list is at its end
pub ended : {X : Type 0} (R : X → X → Ordering) (xs ys : List X) (i : ℕ) → length xs ≤ i → i ≤ length xs → i ≤ length ys
    → slice_cmp R (drop i xs) (drop i ys) ≡ nat_cmp (length xs) (length ys)
ended R xs ys i end_ at le =
    let none : slice_cmp R (drop i xs) (drop i ys) ≡ slice_cmp R [] (drop i ys) = ap (λ l. slice_cmp R l (drop i ys)) (drop_past xs i end_) in
    elim (cases_lt (length xs) (length ys)) [
      | inl lt ↦ none ∙ none_below R (drop i ys) (omega (arith, length-drop i ys)) ∙ sym (less_from_lt (length xs) (length ys) lt)
      | inr ge ↦
          let same : length xs ≡ length ys = omega arith in
          none ∙ ap (slice_cmp R []) (drop_past ys i (omega arith))
          ∙ sym (subst (λ n. nat_cmp (length xs) n ≡ Equal) same (tied_itself nat_cmp_total (length xs)))
    ]

and_true : (b : Bool) → (b && true) ≡ b
and_true true = refl
and_true false = refl

and_assoc : (a b c : Bool) → ((a && b) && c) ≡ (a && (b && c))
and_assoc true b c = refl
and_assoc false b c = refl

all_append : {X : Type 0} (p : X → Bool) (xs ys : List X) → list_all p (xs ++ ys) ≡ (list_all p xs && list_all p ys)
all_append p [] ys = refl
all_append p (x ∷ xs) ys = ap (λ b. p x && b) (all_append p xs ys) ∙ sym (and_assoc (p x) (list_all p xs) (list_all p ys))

-- of the results at one place more
pub all_more : (p : TestResult → Bool) (rows : List TestResult) (places : List ℕ) (i : ℕ) → i < length places
    → list_all p (results_at rows (take (i + 1) places)) ≡ (list_all p (results_at rows (take i places)) && list_all p (results_at rows (get_or places i 0 ∷ [])))
all_more p rows places i within =
    ap (λ l. list_all p (results_at rows l)) (take_more places i 0 within)
    ∙ ap (list_all p) (filter_map-append (slice_get rows) (take i places) (get_or places i 0 ∷ []))
    ∙ all_append p (results_at rows (take i places)) (results_at rows (get_or places i 0 ∷ []))

-- of the result at one place
pub all_one : (p : TestResult → Bool) (rows : List TestResult) (place : ℕ) (row : TestResult) → slice_get rows place ≡ Some row
    → list_all p (results_at rows (place ∷ [])) ≡ p row
all_one p rows place row e = ap (λ o. list_all p (cons_option o [])) e ∙ and_true (p row)

pub all_none : (p : TestResult → Bool) (rows : List TestResult) (place : ℕ) → slice_get rows place ≡ None → list_all p (results_at rows (place ∷ [])) ≡ true
all_none p rows place e = ap (λ o. list_all p (cons_option o [])) e

-- what is picked of one value more
pub picked_more : {X Y : Type 0} (f : X → Option Y) (xs : List X) (i : ℕ) (d : X) → i < length xs
    → filter_map f (take (i + 1) xs) ≡ filter_map f (take i xs) ++ filter_map f (get_or xs i d ∷ [])
picked_more f xs i d within = ap (filter_map f) (take_more xs i d within) ∙ filter_map-append f (take i xs) (get_or xs i d ∷ [])
