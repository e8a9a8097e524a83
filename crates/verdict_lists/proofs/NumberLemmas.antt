-- Verdicts that get their ordinals.
use Rattle.std.proofs.Common.{◌≡◌, ◌⊎◌, ◌<◌, ◌≤◌, ◌+◌, ◌-◌, ◌≢◌, ℕ, zero, suc, Bool, true, false, cond, List, [], ◌∷◌, ◌++◌, map, length, take, drop, get_or, set, Contains, Ordering, refl, sym, ap, ◌∙◌, subst, inl, inr, arith, append_assoc, add-one}
use Rattle.std.specs.Cmp.{IsTotalOrder}
use Rattle.std.specs.Cmp.Lexicographic.{nat_list_cmp_total}
use Rattle.std.specs.List.{Any, count_by}
use Rattle.std.specs.List.Sorted.{IsPermutation, IsSorted}
use Rattle.std.specs.Ordering.{ordering_reverse, is_eq}
use Rattle.std.specs.declared.cmp.Ordering.TheVariants.{Less, Equal}
use Rattle.std.proofs.lemmas.Cmp.{then_total, on_total, nat_cmp_total, tied_back}
use Rattle.std.proofs.lemmas.List.{append-nil, length-take, take_more, take-append-drop}
use Rattle.std.proofs.Math.Seq.{take-suc-set}
use Rattle.std.proofs.lemmas.List.Elements.{All-from_recursion, filter_agree}
use Rattle.std.proofs.lemmas.List.Sorted.{Contains-permutation, IsPermutation-sym}
use Rattle.std.proofs.lemmas.List.Sums.{count_by-le-length, length-filter, sum_by-append}
use Rattle.verdict_lists.specs.declared.entries.Entry.{Entry}
use Rattle.verdict_lists.specs.declared.verdict.Verdict.{Verdict}
use Rattle.verdict_lists.specs.World.{World, IsReachedResult}
use Rattle.lists.specs.Orders.{IsRising}
use Rattle.verdict_lists.specs.Orders.{pairs_order}
use Rattle.verdict_lists.specs.Statuses.{status_number}
use Rattle.verdict_lists.specs.Verdicts.{AreNumbered, AreVerdicts, IsVerdict, front_order, is_like, verdict_key, verdict_order}
use Rattle.verdict_lists.specs.Entries.{AreReached}
use Rattle.verdict_lists.specs.Groups.{AreGrouped, plain}
use Rattle.verdict_lists.proofs.ListLemmas.{In, in_from, contains_from, every_from, every_at, in_right, in_either, in_map, from_map, filter_none, rising_left, rising_right}
use Rattle.verdict_lists.proofs.OrderLemmas.{then_less, equal_from}
use Rattle.verdict_lists.proofs.VerdictLemmas.{each_verdict, each_result, verdicts_rise}

front_order_total : (world : World) → IsTotalOrder (front_order world)
front_order_total world =
    then_total (on_total (λ (v : Verdict). status_number v.status) nat_cmp_total)
    (then_total (on_total (λ (v : Verdict). (verdict_key world v).test) nat_list_cmp_total) (on_total (λ (v : Verdict). v.label) nat_list_cmp_total))

pub count_agree : {X : Type 0} (p q : X → Bool) (xs : List X) → ((x : X) → p x ≡ q x) → count_by p xs ≡ count_by q xs
count_agree p q xs h = sym (length-filter p xs) ∙ ap length (filter_agree p q h xs) ∙ length-filter q xs

count_none : {X : Type 0} (p : X → Bool) (xs : List X) → ((x : X) → In x xs → p x ≡ false) → count_by p xs ≡ 0
count_none p xs h = sym (length-filter p xs) ∙ ap length (filter_none p xs h)

-- The last of some verdicts that rise is like the one before it.
pub like_last : (world : World) (before : List Verdict) (u v : Verdict) → is_like world u v ≡ true
    → count_by (is_like world v) (before ++ u ∷ []) ≡ count_by (is_like world u) before + 1
like_last world before u v e =
    let o = front_order_total world in
    let same : front_order world u v ≡ Equal = equal_from (front_order world u v) e in
    let back : is_like world v u ≡ true = ap is_eq (tied_back o u v same) in
    sum_by-append (λ (x : Verdict). cond (is_like world v x) 1 0) before (u ∷ [])
    ∙ ap (λ n. n + count_by (is_like world v) (u ∷ [])) (count_agree (is_like world v) (is_like world u) before (λ x. ap is_eq (sym (o.congr u v x same))))
    ∙ ap (λ b. count_by (is_like world u) before + (0 + cond b 1 0)) back

not_both : (o : Ordering) → o ≡ Less → o ≡ Equal → ⊥
not_both o a b = let never : Less ≡ Equal = sym a ∙ b in cc

not_front_equal : (world : World) (w u v : Verdict) → (front_order world w u ≡ Less) ⊎ (front_order world w u ≡ Equal) → front_order world u v ≡ Less
    → is_like world v w ≡ false
not_front_equal world w u v upto less =
    let o = front_order_total world in
    let on : front_order world w v ≡ Less = elim upto [
      | inl below ↦ o.trans w u v below less
      | inr same ↦ o.congr w u v same ∙ less
    ] in
    ap is_eq (o.antisymm v w ∙ ap ordering_reverse on)

before_last : (world : World) (xs : List Verdict) (u : Verdict) (ys : List Verdict) → IsRising (verdict_order world) (xs ++ u ∷ ys) → (w : Verdict) → In w xs
    → verdict_order world w u ≡ Less
before_last world [] u ys h w i = absurd i
before_last world (x ∷ xs) u ys h w (inl s) =
    subst (λ z. verdict_order world z u ≡ Less) s (every_at (λ z. verdict_order world x z ≡ Less) (xs ++ u ∷ ys) h.0 u (in_right xs (u ∷ ys) u (inl refl)))
before_last world (x ∷ xs) u ys h w (inr i) = before_last world xs u ys h.1 w i

-- It is not.
pub unlike_last : (world : World) (before : List Verdict) (u v : Verdict) → IsRising (verdict_order world) (before ++ u ∷ (v ∷ []))
    → is_like world u v ≡ false → count_by (is_like world v) (before ++ u ∷ []) ≡ 0
unlike_last world before u v rise e =
    let o = front_order_total world in
    let step : (a b : Verdict) → verdict_order world a b ≡ Less → (front_order world a b ≡ Less) ⊎ (front_order world a b ≡ Equal) = λ a b less.
    then_less (front_order world a b) (pairs_order (verdict_key world a).pairs (verdict_key world b).pairs) less in
    let less : front_order world u v ≡ Less = elim (step u v (rising_right (verdict_order world) before (u ∷ (v ∷ [])) rise).0.0) [
      | inl l ↦ l
      | inr same ↦ let never : true ≡ false = sym (ap is_eq same) ∙ e in cc
    ] in
    count_none (is_like world v) (before ++ u ∷ []) (λ w i. elim (in_either before (u ∷ []) w i) [
      | inl early ↦ not_front_equal world w u v (step w u (before_last world before u (v ∷ []) rise w early)) less
      | inr last ↦ elim last [
        | inl s ↦ subst (λ x. is_like world v x ≡ false) s (ap is_eq (o.antisymm v u ∙ ap ordering_reverse less))
        | inr never ↦ absurd never
      ]
    ])

-- one more that has its ordinal
pub numbered_more : (world : World) (before xs : List Verdict) (v : Verdict) → AreNumbered world before xs
    → v.ordinal ≡ count_by (is_like world v) (before ++ xs) → AreNumbered world before (xs ++ v ∷ [])
numbered_more world before [] v h e = (e ∙ ap (count_by (is_like world v)) (append-nil before), tt)
numbered_more world before (x ∷ xs) v h e =
    (h.0, numbered_more world (before ++ x ∷ []) xs v h.1 (e ∙ ap (count_by (is_like world v)) (sym (append_assoc before (x ∷ []) xs))))

pub numbered_last : (world : World) (before xs : List Verdict) (v : Verdict) → AreNumbered world before (xs ++ v ∷ [])
    → v.ordinal ≡ count_by (is_like world v) (before ++ xs)
numbered_last world before [] v h = h.0 ∙ ap (count_by (is_like world v)) (sym (append-nil before))
numbered_last world before (x ∷ xs) v h =
    numbered_last world (before ++ x ∷ []) xs v h.1 ∙ ap (count_by (is_like world v)) (append_assoc before (x ∷ []) xs)

-- the same verdicts but for their ordinals
pub plain_set : (xs : List Verdict) (i : ℕ) (v : Verdict) → i < length xs → plain v ≡ plain (get_or xs i v) → map plain (set xs i v) ≡ map plain xs
plain_set [] i v within e = refl
plain_set (x ∷ xs) zero v within e = ap (λ z. z ∷ map plain xs) e
plain_set (x ∷ xs) (suc i) v within e = ap (λ zs. plain x ∷ zs) (plain_set xs i v (omega arith) e)

pub plain_rises : (world : World) (xs : List Verdict) → IsRising (verdict_order world) xs → IsRising (verdict_order world) (map plain xs)
plain_rises world [] h = tt
plain_rises world (x ∷ xs) h = (
  every_from (λ y. verdict_order world (plain x) y ≡ Less) (map plain xs) (λ y i.
      let m = from_map plain xs y i in
      subst (λ z. verdict_order world x z ≡ Less) m.2 (every_at (λ z. verdict_order world x z ≡ Less) xs h.0 m.0 m.1)),
  plain_rises world xs h.1,
)

rises_plain : (world : World) (xs : List Verdict) → IsRising (verdict_order world) (map plain xs) → IsRising (verdict_order world) xs
rises_plain world [] h = tt
rises_plain world (x ∷ xs) h = (
  every_from (λ y. verdict_order world x y ≡ Less) xs (λ y i. every_at (λ z. verdict_order world x z ≡ Less) (map plain xs) h.0 (plain y) (in_map plain xs y i)),
  rises_plain world xs h.1,
)

pub rising_plain : (world : World) (xs ys : List Verdict) → map plain ys ≡ map plain xs → IsRising (verdict_order world) xs → IsRising (verdict_order world) ys
rising_plain world xs ys e h = rises_plain world ys (subst (IsRising (verdict_order world)) (sym e) (plain_rises world xs h))

is_verdict_plain : (world : World) (roots : List ℕ) (verdict : Verdict) → IsVerdict world roots verdict → IsVerdict world roots (plain verdict)
is_verdict_plain world roots verdict h = record {
  there = h.there;
  results = h.results;
  exonerations = h.exonerations;
  results_rise = h.results_rise;
  exonerations_rise = h.exonerations_rise;
  status = h.status;
  label = h.label;
}

plain_is_verdict : (world : World) (roots : List ℕ) (verdict : Verdict) → IsVerdict world roots (plain verdict) → IsVerdict world roots verdict
plain_is_verdict world roots verdict h = record {
  there = h.there;
  results = h.results;
  exonerations = h.exonerations;
  results_rise = h.results_rise;
  exonerations_rise = h.exonerations_rise;
  status = h.status;
  label = h.label;
}

any_from : {X : Type 0} (P : X → Type 0) (xs : List X) (x : X) → In x xs → P x → Any P xs
any_from P xs x i p = let c = contains_from xs x i in (c.0, x, c.1, c.2, p)

-- verdicts in order that get their ordinals
pub are_numbered : (world : World) (roots : List ℕ) (sorted list : List Verdict) → ((v : Verdict) → In v sorted → IsVerdict world roots v)
    → ((place : ℕ) → IsReachedResult world roots place → (v : Verdict) × In v sorted × Contains v.results place)
    → IsRising (verdict_order world) sorted → map plain list ≡ map plain sorted → AreNumbered world [] list → AreVerdicts world roots list
are_numbered world roots sorted list each all rise same numbered = record {
  each = All-from_recursion (IsVerdict world roots) list (every_from (IsVerdict world roots) list (λ v i.
      let m = from_map plain sorted (plain v) (subst (In (plain v)) same (in_map plain list v i)) in
      plain_is_verdict world roots v (subst (IsVerdict world roots) m.2 (is_verdict_plain world roots m.0 (each m.0 m.1)))));
  all = λ place h.
      let r = all place h in
      let m = from_map plain list (plain r.0) (subst (In (plain r.0)) (sym same) (in_map plain sorted r.0 r.1)) in
      any_from (λ (v : Verdict). Contains v.results place) list m.0 m.1
      (subst (λ (v : Verdict). Contains v.results place) (sym m.2) r.2);
  rise = rising_plain world sorted list same rise;
  numbered = numbered;
}

pub are_verdicts : (world : World) (roots : List ℕ) (entries : List Entry) (verdicts sorted list : List Verdict) → AreReached world roots entries
    → AreGrouped world entries verdicts → IsPermutation verdicts sorted → IsSorted (verdict_order world) sorted
    → map plain list ≡ map plain sorted → AreNumbered world [] list → AreVerdicts world roots list
are_verdicts world roots entries verdicts sorted list reached cut p up =
    are_numbered world roots sorted list
    (λ v i. each_verdict world roots entries verdicts reached cut v (in_from verdicts v (Contains-permutation sorted verdicts v (IsPermutation-sym verdicts sorted p) (contains_from sorted v i))))
    (λ place h.
    let r = each_result world roots entries verdicts reached cut place h in
    (r.0, in_from sorted r.0 (Contains-permutation verdicts sorted r.0 p (contains_from verdicts r.0 r.1)), r.2))
    (verdicts_rise world roots entries verdicts sorted reached cut p up)

-- The verdict before a place is the last one in front of it.
pub last_split : (xs : List Verdict) (at : ℕ) (u : Verdict) → at ≢ 0 → at ≤ length xs → u ≡ get_or xs (at - 1) u → take at xs ≡ take (at - 1) xs ++ u ∷ []
last_split xs at u some within is =
    let back : (at - 1) + 1 ≡ at = omega arith in
    ap (λ n. take n xs) (sym back) ∙ take_more xs (at - 1) u (omega arith) ∙ ap (λ x. take (at - 1) xs ++ x ∷ []) (sym is)

pub last_count : (world : World) (xs : List Verdict) (at : ℕ) (u : Verdict) → at ≢ 0 → at ≤ length xs → u ≡ get_or xs (at - 1) u
    → AreNumbered world [] (take at xs) → u.ordinal ≡ count_by (is_like world u) (take (at - 1) xs)
last_count world xs at u some within is h =
    numbered_last world [] (take (at - 1) xs) u (subst (AreNumbered world []) (last_split xs at u some within is) h)

pub last_small : (world : World) (xs : List Verdict) (at : ℕ) (u : Verdict) → at ≢ 0 → at ≤ length xs → u ≡ get_or xs (at - 1) u
    → AreNumbered world [] (take at xs) → u.ordinal + 1 ≤ at
last_small world xs at u some within is h =
    let e = last_count world xs at u some within is h in
    let least = count_by-le-length (is_like world u) (take (at - 1) xs) in
    let len = length-take (at - 1) xs in
    omega arith

pub last_rise : (world : World) (xs : List Verdict) (at : ℕ) (u v : Verdict) → at ≢ 0 → at < length xs → u ≡ get_or xs (at - 1) u → v ≡ get_or xs at v
    → IsRising (verdict_order world) xs → IsRising (verdict_order world) (take (at - 1) xs ++ u ∷ (v ∷ []))
last_rise world xs at u v some within is last h =
    let front : take (at + 1) xs ≡ take (at - 1) xs ++ u ∷ (v ∷ []) =
    take_more xs at v within ∙ ap (λ x. take at xs ++ x ∷ []) (sym last)
    ∙ ap (λ l. l ++ v ∷ []) (last_split xs at u some (omega arith) is) ∙ append_assoc (take (at - 1) xs) (u ∷ []) (v ∷ []) in
    subst (IsRising (verdict_order world)) front
    (rising_left (verdict_order world) (take (at + 1) xs) (drop (at + 1) xs) (subst (IsRising (verdict_order world)) (sym (take-append-drop (at + 1) xs)) h))

-- A verdict gets its ordinal.
pub numbered_set : (world : World) (xs : List Verdict) (at : ℕ) (v : Verdict) → at < length xs → AreNumbered world [] (take at xs)
    → v.ordinal ≡ count_by (is_like world v) (take at xs) → AreNumbered world [] (take (at + 1) (set xs at v))
numbered_set world xs at v within h e =
    let front : take (at + 1) (set xs at v) ≡ take at xs ++ v ∷ [] = rw add-one (take-suc-set xs at v within) in
    subst (AreNumbered world []) (sym front) (numbered_more world [] (take at xs) v h e)
