-- Pages that are followed to the end of a list.
use Rattle.std.proofs.Common.{◌≡◌, ◌⊎◌, ◌<◌, ◌≤◌, ◌+◌, ℕ, get_or, zero, suc, Bool, true, false, if◌then◌else◌, List, [], ◌∷◌, ◌++◌, length, take, drop, Option, Some, None, Ordering, refl, sym, ap, ◌∙◌, subst, inl, inr, arith, append_assoc, nat_lt, not}
use Rattle.std.specs.Cmp.{IsTotalOrder}
use Rattle.std.specs.List.{All, AllByRecursion, AllWithin, filter}
use Rattle.std.specs.List.Sorted.{IsPartitionPoint, IsPartitionedBy}
use Rattle.std.specs.Ordering.{is_le, is_lt, ordering_reverse}
use Rattle.std.specs.declared.cmp.Ordering.TheVariants.{Less, Equal, Greater}
use Rattle.std.proofs.lemmas.Bool.{cases_Bool, cases_lt, ltb-true, ltb-false, true≢false}
use Rattle.std.proofs.lemmas.Cmp.{alike_right, tied_itself}
use Rattle.std.proofs.lemmas.List.{append-nil, get_or-take, get_or-drop, length-drop, length-take, take-append-drop}
use Rattle.std.proofs.lemmas.List.Elements.{All-head, All-tail, Contains-get_or, filter-append, recursion_from_All}
use Rattle.lists.specs.Orders.{IsRising}
use Rattle.verdict_lists.proofs.ListLemmas.{In, in_from, every_at, filter_none, filter_yes, filter_no, in_right, rising_right}
use Rattle.verdict_pages.specs.Pages.{behind, comes_to_end, has_more, last_key, next_key, page_rows, pages}
use Rattle.verdict_pages.specs.Laws.{PagesAreList}

filter_all : {X : Type 0} (p : X → Bool) (xs : List X) → ((y : X) → In y xs → p y ≡ true) → filter p xs ≡ xs
filter_all p [] f = refl
filter_all p (x ∷ xs) f = filter_yes p x xs (f x (inl refl)) ∙ ap (λ l. x ∷ l) (filter_all p xs (λ y i. f y (inr i)))

below_middle : {X : Type 0} (R : X → X → Ordering) (xs : List X) (r : X) (ys : List X) → IsRising R (xs ++ r ∷ ys) → (w : X) → In w xs → R w r ≡ Less
below_middle R [] r ys h w i = absurd i
below_middle R (x ∷ xs) r ys h w (inl s) =
    subst (λ z. R z r ≡ Less) s (every_at (λ z. R x z ≡ Less) (xs ++ r ∷ ys) h.0 r (in_right xs (r ∷ ys) r (inl refl)))
below_middle R (x ∷ xs) r ys h w (inr i) = below_middle R xs r ys h.1 w i

module _ {X K : Type 0} (order : K → K → Ordering) (key : X → K) (o : IsTotalOrder order) where
  abbrev by_key : X → X → Ordering
  by_key a b = order (key a) (key b)

  -- what stands behind a row
  behind_row : (xs : List X) (r : X) (ys : List X) → IsRising by_key (xs ++ r ∷ ys) → behind order key (xs ++ r ∷ ys) (Some (key r)) ≡ ys
  behind_row xs r ys h =
      let p : X → Bool = λ row. is_lt (order (key r) (key row)) in
      let below : filter p xs ≡ [] = filter_none p xs (λ w i. ap is_lt (o.antisymm (key r) (key w) ∙ ap ordering_reverse (below_middle by_key xs r ys h w i))) in
      let own : p r ≡ false = ap is_lt (tied_itself o (key r)) in
      let right : IsRising by_key (r ∷ ys) = rising_right by_key xs (r ∷ ys) h in
      let above : filter p ys ≡ ys = filter_all p ys (λ y i. ap is_lt (every_at (λ z. by_key r z ≡ Less) ys right.0 y i)) in
      filter-append p xs (r ∷ ys) ∙ ap (λ l. l ++ filter p (r ∷ ys)) below ∙ filter_no p r ys own ∙ above

  -- a list that isn't empty has a last row
  record Ended (rows : List X) (after : Option K) : Type 0 where
    front : List X
    last : X
    is : rows ≡ front ++ last ∷ []
    key_is : last_key order key after rows ≡ Some (key last)

  ended : (row : X) (rows : List X) (after : Option K) → Ended (row ∷ rows) after
  ended row [] after = record { front = []; last = row; is = refl; key_is = refl }
  ended row (next ∷ rows) after =
      let e = ended next rows (Some (key row)) in
      record { front = row ∷ e.front; last = e.last; is = ap (λ l. row ∷ l) e.is; key_is = e.key_is }

  some_ended : (rows : List X) (after : Option K) → 0 < length rows → Ended rows after
  some_ended [] after h = absurd (omega arith)
  some_ended (row ∷ rows) after h = ended row rows after

  regroup : (done front : List X) (last : X) (back : List X) → done ++ ((front ++ last ∷ []) ++ back) ≡ (done ++ front) ++ last ∷ back
  regroup done front last back = ap (λ l. done ++ l) (append_assoc front (last ∷ []) back) ∙ sym (append_assoc done front (last ∷ back))

  take_whole : (size : ℕ) (xs : List X) → length xs ≤ size → take size xs ≡ xs
  take_whole zero [] h = refl
  take_whole zero (x ∷ xs) h = absurd (omega arith)
  take_whole (suc size) [] h = refl
  take_whole (suc size) (x ∷ xs) h = ap (λ l. x ∷ l) (take_whole size xs (omega arith))

  pages_from : (list done left : List X) (after : Option K) (sizes : List ℕ) → list ≡ done ++ left → IsRising by_key list
      → behind order key list after ≡ left → All (λ size. 0 < size) sizes → comes_to_end order key list after sizes ≡ true
      → pages order key list after sizes ≡ left
  pages_from list done left after [] split rise is sizes ends = let never : false ≡ true = ends in cc
  pages_from list done left after (size ∷ sizes) split rise is all ends =
      let rows : List X = page_rows order key list after size in
      let rows_are : rows ≡ take size left = ap (take size) is in
      let more_is : has_more order key list after size ≡ nat_lt size (length left) = ap (λ l. nat_lt size (length l)) is in
      let next : Option K = next_key order key list after size in
      let rest : List X = pages order key list next sizes in
      elim (cases_Bool (nat_lt size (length left))) [
        | inl yes_ ↦
            let lt : size < length left = ltb-true size (length left) yes_ in
            let positive : 0 < size = All-head (λ n. 0 < n) size sizes all in
            let count : length rows ≡ length (take size left) = ap length rows_are in
            let some : 0 < length rows = omega (arith, count, length-take size left) in
            let e = some_ended rows after some in
            let parts : list ≡ (done ++ e.front) ++ e.last ∷ drop size left =
            split ∙ ap (λ l. done ++ l) (sym (take-append-drop size left)) ∙ ap (λ l. done ++ (l ++ drop size left)) (sym rows_are ∙ e.is)
            ∙ regroup done e.front e.last (drop size left) in
            let behind_is : behind order key list next ≡ drop size left =
            ap (behind order key list) e.key_is ∙ ap (λ l. behind order key l (Some (key e.last))) parts
            ∙ behind_row (done ++ e.front) e.last (drop size left) (subst (IsRising by_key) parts rise) in
            let again : comes_to_end order key list next sizes ≡ true =
            sym (ap (λ b. if b then comes_to_end order key list next sizes else true) (more_is ∙ yes_)) ∙ ends in
            let later : rest ≡ drop size left = pages_from list (done ++ take size left) (drop size left) next sizes
            (split ∙ ap (λ l. done ++ l) (sym (take-append-drop size left)) ∙ sym (append_assoc done (take size left) (drop size left))) rise behind_is
            (All-tail (λ n. 0 < n) size sizes all) again in
            ap (λ b. rows ++ (if b then rest else [])) (more_is ∙ yes_) ∙ ap (λ l. l ++ rest) rows_are ∙ ap (λ l. take size left ++ l) later ∙ take-append-drop size left
        | inr no_ ↦
            let ge : length left ≤ size = ltb-false size (length left) no_ in
            ap (λ b. rows ++ (if b then rest else [])) (more_is ∙ no_) ∙ append-nil rows ∙ rows_are ∙ take_whole size left ge
      ]

pub pages_are_list : {X K : Type 0} (order : K → K → Ordering) (key : X → K) → IsTotalOrder order → PagesAreList X K order key
pages_are_list order key o list sizes rise all ends = pages_from order key o list [] list None sizes refl rise refl all ends

-- Where a list whose keys rise is parted by a key.
front_all : {X : Type 0} (P : X → Type 0) (xs : List X) (i : ℕ) → i ≤ length xs → AllWithin P xs 0 i → AllByRecursion P (take i xs)
front_all P xs i within h = recursion_from_All P (take i xs)
    (λ k d below. let lt : k < i = omega (arith, length-take i xs) in rw (get_or-take i xs k d lt) (h k d (omega arith) lt))

back_all : {X : Type 0} (P : X → Type 0) (xs : List X) (i : ℕ) → i ≤ length xs → AllWithin P xs i (length xs) → AllByRecursion P (drop i xs)
back_all P xs i within h = recursion_from_All P (drop i xs)
    (λ k d below. rw (get_or-drop i xs k d) (h (i + k) d (omega arith) (omega (arith, length-drop i xs))))

pub filter_parted : {X : Type 0} (p q : X → Bool) → ((x : X) → q x ≡ not (p x)) → (xs : List X) (i : ℕ) → i ≤ length xs
    → IsPartitionPoint (λ x. p x ≡ true) (λ x. p x ≡ false) xs i → filter q xs ≡ drop i xs
filter_parted p q other xs i within parts =
    let front : filter q (take i xs) ≡ [] = filter_none q (take i xs) (λ y j. other y ∙ ap not (every_at (λ x. p x ≡ true) (take i xs) (front_all (λ x. p x ≡ true) xs i within parts.0) y j)) in
    let back : filter q (drop i xs) ≡ drop i xs = filter_all q (drop i xs) (λ y j. other y ∙ ap not (every_at (λ x. p x ≡ false) (drop i xs) (back_all (λ x. p x ≡ false) xs i within parts.1) y j)) in
    ap (filter q) (sym (take-append-drop i xs)) ∙ filter-append q (take i xs) (drop i xs) ∙ ap (λ l. l ++ filter q (drop i xs)) front ∙ back

pub pair_rises : {X : Type 0} (R : X → X → Ordering) (xs : List X) → IsRising R xs → (i j : ℕ) (d : X) → i < j → j < length xs → R (get_or xs i d) (get_or xs j d) ≡ Less
pair_rises R [] h i j d lt within = absurd (omega arith)
pair_rises R (x ∷ xs) h zero zero d lt within = absurd (omega arith)
pair_rises R (x ∷ xs) h zero (suc j) d lt within =
    every_at (λ z. R x z ≡ Less) xs h.0 (get_or xs j d) (in_from xs (get_or xs j d) (Contains-get_or xs j d (omega arith)))
pair_rises R (x ∷ xs) h (suc i) zero d lt within = absurd (omega arith)
pair_rises R (x ∷ xs) h (suc i) (suc j) d lt within = pair_rises R xs h.1 i j d (omega arith) (omega arith)

upto_back : (o : Ordering) → is_lt o ≡ not (is_le (ordering_reverse o))
upto_back Less = refl
upto_back Equal = refl
upto_back Greater = refl

le_cases : (o : Ordering) → is_le o ≡ true → (o ≡ Less) ⊎ (o ≡ Equal)
le_cases Less e = inl refl
le_cases Equal e = inr refl
le_cases Greater e = absurd (true≢false (sym e))

module _ {X K : Type 0} (order : K → K → Ordering) (key : X → K) (o : IsTotalOrder order) where
  pub parted_by : (xs : List X) (k : K) → IsRising (λ a b. order (key a) (key b)) xs → IsPartitionedBy (λ x. is_le (order (key x) k)) xs
  parted_by xs k rise = λ i j d le within e. elim (cases_lt i j) [
    | inl lt ↦
        let less : order (key (get_or xs i d)) (key (get_or xs j d)) ≡ Less = pair_rises (λ a b. order (key a) (key b)) xs rise i j d lt within in
        elim (le_cases (order (key (get_or xs j d)) k) e) [
          | inl below ↦ ap is_le (o.trans (key (get_or xs i d)) (key (get_or xs j d)) k less below)
          | inr same ↦ ap is_le (sym (alike_right o (key (get_or xs j d)) k (key (get_or xs i d)) same) ∙ less)
        ]
    | inr ge ↦ let at : i ≡ j = omega arith in subst (λ n. is_le (order (key (get_or xs n d)) k) ≡ true) (sym at) e
  ]

  pub behind_parted : (xs : List X) (k : K) (i : ℕ) → i ≤ length xs
      → IsPartitionPoint (λ x. is_le (order (key x) k) ≡ true) (λ x. is_le (order (key x) k) ≡ false) xs i → drop i xs ≡ behind order key xs (Some k)
  behind_parted xs k i within parts = sym (filter_parted (λ x. is_le (order (key x) k)) (λ x. is_lt (order k (key x)))
      (λ x. upto_back (order k (key x)) ∙ ap (λ r. not (is_le r)) (sym (o.antisymm (key x) k))) xs i within parts)
