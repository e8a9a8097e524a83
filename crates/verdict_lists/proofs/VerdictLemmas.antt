-- The verdicts of entries that are cut into groups.
use Rattle.std.proofs.Common.{◌≡◌, ◌<◌, ℕ, zero, suc, Bool, true, false, if◌then◌else◌, List, [], ◌∷◌, map, length, get_or, Contains, Some, None, Ordering, refl, sym, ap, ◌∙◌, subst, inl, inr, arith}
use Rattle.std.specs.Cmp.{IsTotalOrder}
use Rattle.std.specs.Cmp.Lexicographic.{slice_cmp, nat_list_cmp_total}
use Rattle.std.specs.List.{filter, slice_get, IsDistinct}
use Rattle.std.specs.List.Sorted.{IsSorted, IsPermutation}
use Rattle.std.specs.Ordering.{nat_cmp, ordering_then, is_eq}
use Rattle.std.specs.declared.cmp.Ordering.TheVariants.{Less, Equal}
use Rattle.std.proofs.lemmas.Bool.{cases_Bool, true≢false}
use Rattle.std.proofs.lemmas.Cmp.{then_total, on_total, nat_cmp_total, eq_by_cmp_equiv}
use Rattle.std.proofs.lemmas.List.{append-nil}
use Rattle.std.proofs.lemmas.Map.Keys.{IsDistinct-IsPermutation}
use Rattle.names_realms.specs.Variants.{label_of}
use Rattle.lists.proofs.OrderLemmas.{then_equal}
use Rattle.verdict_lists.specs.declared.entries.Entry.{Entry}
use Rattle.verdict_lists.specs.declared.entries.Entry.TheVariants.{Result, Exoneration}
use Rattle.verdict_lists.specs.declared.verdict.Verdict.{Verdict}
use Rattle.verdict_lists.specs.World.{World, IsReachedResult, IsReachedExoneration}
use Rattle.lists.specs.Orders.{IsRising}
use Rattle.verdict_lists.specs.Orders.{Key, group_order, pairs_order, no_key, result_key, result_key_at, exoneration_key_at, result_order, exoneration_order}
use Rattle.verdict_lists.specs.Statuses.{status_number}
use Rattle.verdict_lists.specs.Verdicts.{IsAlike, IsVerdict, first_key, front_order, is_some, verdict_key, verdict_order}
use Rattle.verdict_lists.specs.Entries.{AreReached, entry_key, entry_order, result_in, exoneration_in}
use Rattle.verdict_lists.specs.Groups.{AreGrouped, group_of_entries, is_same, label_at, label_in, made, made_of, results_in, exonerations_in, verdict_at}
use Rattle.verdict_lists.proofs.ListLemmas.{In, in_from, contains_from, from_flat, in_flat, from_filter, in_filter, from_picked, in_picked, rising_filter, rising_flat, rising_picked, rising_sorted, distinct_rising}
use Rattle.verdict_lists.proofs.OrderLemmas.{alike_from, equal_alike, equal_from, group_order_total, pairs_order_total, unequal_from}

pub alike_back : (a b : Key) → IsAlike a b → IsAlike b a
alike_back a b h = (sym h.0, sym h.1)

pub alike_on : (a b c : Key) → IsAlike a b → IsAlike b c → IsAlike a c
alike_on a b c h k = (h.0 ∙ k.0, h.1 ∙ k.1)

-- what a verdict is made of
made_by_case : (world : World) (entries : List Entry) (verdict : Verdict) (b : Bool) → is_some (results_in entries) ≡ b
    → In verdict (if b then made world entries ∷ [] else []) → (is_some (results_in entries) ≡ true) × (made world entries ≡ verdict)
made_by_case world entries verdict true e (inl s) = (e, s)
made_by_case world entries verdict true e (inr never) = absurd never
made_by_case world entries verdict false e never = absurd never

pub made_cases : (world : World) (entries : List Entry) (verdict : Verdict) → In verdict (made_of world entries)
    → (is_some (results_in entries) ≡ true) × (made world entries ≡ verdict)
made_cases world entries verdict i = made_by_case world entries verdict (is_some (results_in entries)) refl i

pub in_made : (world : World) (entries : List Entry) → is_some (results_in entries) ≡ true → In (made world entries) (made_of world entries)
in_made world entries e = subst (λ b. In (made world entries) (if b then made world entries ∷ [] else [])) (sym e) (inl refl)

made_rises : (world : World) (R : Verdict → Verdict → Ordering) (entries : List Entry) → IsRising R (made_of world entries)
made_rises world R entries = elim (cases_Bool (is_some (results_in entries))) [
  | inl t ↦ subst (λ b. IsRising R (if b then made world entries ∷ [] else [])) (sym t) (tt, tt)
  | inr f ↦ subst (λ b. IsRising R (if b then made world entries ∷ [] else [])) (sym f) tt
]

pub result_entry : (entry : Entry) (place : ℕ) → result_in entry ≡ Some place → entry ≡ Result place
result_entry (Result q) place e = let s : q ≡ place = cc in ap Result s
result_entry (Exoneration q) place e = let never : None ≡ Some place = e in cc

exoneration_entry : (entry : Entry) (place : ℕ) → exoneration_in entry ≡ Some place → entry ≡ Exoneration place
exoneration_entry (Result q) place e = let never : None ≡ Some place = e in cc
exoneration_entry (Exoneration q) place e = let s : q ≡ place = cc in ap Exoneration s

-- the entries like a head
abbrev pub group : World → List Entry → Entry → List Entry
group world entries head = filter (is_same world head) entries

alike_same : (world : World) (head entry : Entry) → is_same world head entry ≡ true → IsAlike (entry_key world head) (entry_key world entry)
alike_same world head entry e = alike_from (entry_key world head) (entry_key world entry) (equal_from (group_of_entries world head entry) e)

pub same_alike : (world : World) (head entry : Entry) → IsAlike (entry_key world head) (entry_key world entry) → is_same world head entry ≡ true
same_alike world head entry h = ap is_eq (equal_alike (entry_key world head) (entry_key world entry) h)

from_results : (world : World) (roots : List ℕ) (entries : List Entry) → AreReached world roots entries → (head : Entry) (place : ℕ)
    → In place (results_in (group world entries head)) → IsReachedResult world roots place × IsAlike (entry_key world head) (result_key_at world place)
from_results world roots entries reached head place i =
    let p = from_picked result_in (group world entries head) place i in
    let f = from_filter (is_same world head) entries (Result place) (subst (λ e. In e (group world entries head)) (result_entry p.0 place p.2) p.1) in
    ((reached.all (Result place)).0 (contains_from entries (Result place) f.0), alike_same world head (Result place) f.1)

pub in_results : (world : World) (roots : List ℕ) (entries : List Entry) → AreReached world roots entries → (head : Entry) (place : ℕ)
    → IsReachedResult world roots place → IsAlike (entry_key world head) (result_key_at world place) → In place (results_in (group world entries head))
in_results world roots entries reached head place r h =
    in_picked result_in (group world entries head) (Result place) place
    (in_filter (is_same world head) entries (Result place) (in_from entries (Result place) ((reached.all (Result place)).1 r)) (same_alike world head (Result place) h)) refl

from_exonerations : (world : World) (roots : List ℕ) (entries : List Entry) → AreReached world roots entries → (head : Entry) (place : ℕ)
    → In place (exonerations_in (group world entries head)) → IsReachedExoneration world roots place × IsAlike (entry_key world head) (exoneration_key_at world place)
from_exonerations world roots entries reached head place i =
    let p = from_picked exoneration_in (group world entries head) place i in
    let f = from_filter (is_same world head) entries (Exoneration place) (subst (λ e. In e (group world entries head)) (exoneration_entry p.0 place p.2) p.1) in
    ((reached.all (Exoneration place)).0 (contains_from entries (Exoneration place) f.0), alike_same world head (Exoneration place) f.1)

in_exonerations : (world : World) (roots : List ℕ) (entries : List Entry) → AreReached world roots entries → (head : Entry) (place : ℕ)
    → IsReachedExoneration world roots place → IsAlike (entry_key world head) (exoneration_key_at world place) → In place (exonerations_in (group world entries head))
in_exonerations world roots entries reached head place r h =
    in_picked exoneration_in (group world entries head) (Exoneration place) place
    (in_filter (is_same world head) entries (Exoneration place) (in_from entries (Exoneration place) ((reached.all (Exoneration place)).1 r)) (same_alike world head (Exoneration place) h)) refl

first_alike : (world : World) (key : Key) (places : List ℕ) → is_some places ≡ true → ((place : ℕ) → In place places → IsAlike key (result_key_at world place))
    → IsAlike key (first_key world places)
first_alike world key [] e f = absurd (true≢false (sym e))
first_alike world key (place ∷ places) e f = f place (inl refl)

some_length : (places : List ℕ) → is_some places ≡ true → 0 < length places
some_length [] e = absurd (true≢false (sym e))
some_length (place ∷ places) e = omega arith

pub mapped_or : {X Y : Type 0} (f : X → Y) (xs : List X) (k : ℕ) (x : X) (d : Y) → slice_get xs k ≡ Some x → get_or (map f xs) k d ≡ f x
mapped_or f [] k x d e = let never : None ≡ Some x = e in cc
mapped_or f (y ∷ ys) zero x d e = let s : y ≡ x = cc in ap f s
mapped_or f (y ∷ ys) (suc k) x d e = mapped_or f ys k x d e

label_is : (world : World) (roots places : List ℕ) → is_some places ≡ true → ((place : ℕ) → In place places → IsReachedResult world roots place)
    → label_at world.results places ≡ label_of (first_key world places).pairs
label_is world roots [] e f = absurd (true≢false (sym e))
label_is world roots (place ∷ places) e f =
    let r = f place (inl refl) in
    ap label_in r.1 ∙ sym (ap (λ (k : Key). label_of k.pairs) (mapped_or (result_key world) world.results place r.0 no_key r.1))

pub results_rise_ : (world : World) (a b : Entry) (p q : ℕ) → result_in a ≡ Some p → result_in b ≡ Some q → entry_order world a b ≡ Less → result_order world p q ≡ Less
results_rise_ world a b p q e f less =
    subst (λ x. entry_order world x (Result q) ≡ Less) (result_entry a p e) (subst (λ y. entry_order world a y ≡ Less) (result_entry b q f) less)

exonerations_rise_ : (world : World) (a b : Entry) (p q : ℕ) → exoneration_in a ≡ Some p → exoneration_in b ≡ Some q → entry_order world a b ≡ Less → exoneration_order world p q ≡ Less
exonerations_rise_ world a b p q e f less =
    subst (λ x. entry_order world x (Exoneration q) ≡ Less) (exoneration_entry a p e) (subst (λ y. entry_order world a y ≡ Less) (exoneration_entry b q f) less)

-- the verdict of the entries like a head
made_key : (world : World) (roots : List ℕ) (entries : List Entry) → AreReached world roots entries → (head : Entry)
    → is_some (results_in (group world entries head)) ≡ true → IsAlike (entry_key world head) (first_key world (results_in (group world entries head)))
made_key world roots entries reached head some =
    first_alike world (entry_key world head) (results_in (group world entries head)) some (λ place i. (from_results world roots entries reached head place i).1)

pub made_is : (world : World) (roots : List ℕ) (entries : List Entry) → AreReached world roots entries → (head : Entry)
    → is_some (results_in (group world entries head)) ≡ true → IsVerdict world roots (made world (group world entries head))
made_is world roots entries reached head some =
    let g = group world entries head in
    let key = entry_key world head in
    let own = first_key world (results_in g) in
    let alike = made_key world roots entries reached head some in
    let rises = rising_filter (entry_order world) (is_same world head) entries reached.rise in
    record {
      there = some_length (results_in g) some;
      results = λ place. (
        λ held.
            let f = from_results world roots entries reached head place (in_from (results_in g) place held) in
            (f.0, alike_on own key (result_key_at world place) (alike_back key own alike) f.1),
        λ both. contains_from (results_in g) place
            (in_results world roots entries reached head place both.0 (alike_on key own (result_key_at world place) alike both.1)),
      );
      exonerations = λ place. (
        λ held.
            let f = from_exonerations world roots entries reached head place (in_from (exonerations_in g) place held) in
            (f.0, alike_on own key (exoneration_key_at world place) (alike_back key own alike) f.1),
        λ both. contains_from (exonerations_in g) place
            (in_exonerations world roots entries reached head place both.0 (alike_on key own (exoneration_key_at world place) alike both.1)),
      );
      results_rise = rising_picked (entry_order world) (result_order world) result_in g (λ a b p q i j e f. results_rise_ world a b p q e f) rises;
      exonerations_rise = rising_picked (entry_order world) (exoneration_order world) exoneration_in g (λ a b p q i j e f. exonerations_rise_ world a b p q e f) rises;
      status = refl;
      label = label_is world roots (results_in g) some (λ place i. (from_results world roots entries reached head place i).0);
    }

pub each_verdict : (world : World) (roots : List ℕ) (entries : List Entry) (verdicts : List Verdict) → AreReached world roots entries → AreGrouped world entries verdicts
    → (verdict : Verdict) → In verdict verdicts → IsVerdict world roots verdict
each_verdict world roots entries verdicts reached cut verdict i =
    let f = from_flat (verdict_at world entries) cut.heads verdict (subst (In verdict) cut.made i) in
    let m = made_cases world (group world entries f.0) verdict f.2 in
    subst (IsVerdict world roots) m.1 (made_is world roots entries reached f.0 m.0)

contains_done : (world : World) (entries : List Entry) (verdicts : List Verdict) → (cut : AreGrouped world entries verdicts) → (entry : Entry)
    → In entry entries → In entry cut.done
contains_done world entries verdicts cut entry i = subst (In entry) (cut.split ∙ append-nil cut.done) i

pub some_in : (places : List ℕ) (place : ℕ) → In place places → is_some places ≡ true
some_in [] place i = absurd i
some_in (p ∷ places) place i = refl

pub each_result : (world : World) (roots : List ℕ) (entries : List Entry) (verdicts : List Verdict) → AreReached world roots entries → AreGrouped world entries verdicts
    → (place : ℕ) → IsReachedResult world roots place → (verdict : Verdict) × In verdict verdicts × Contains verdict.results place
each_result world roots entries verdicts reached cut place r =
    let held = contains_done world entries verdicts cut (Result place) (in_from entries (Result place) ((reached.all (Result place)).1 r)) in
    let a = cut.all (Result place) (contains_from cut.done (Result place) held) in
    let head = a.0 in
    let g = group world entries head in
    let there = in_results world roots entries reached head place r (alike_same world head (Result place) a.2) in (
      made world g,
      subst (In (made world g)) (sym cut.made)
          (in_flat (verdict_at world entries) cut.heads head (made world g) (in_from cut.heads head a.1) (in_made world g (some_in (results_in g) place there))),
      contains_from (results_in g) place there,
    )

-- no two verdicts are of one test and variant
abbrev by_key : World → Verdict → Verdict → Ordering
by_key world a b = group_order (verdict_key world a) (verdict_key world b)

group_agree : (a b c d : Key) → IsAlike a c → IsAlike b d → group_order a b ≡ group_order c d
group_agree a b c d h k =
    ap (λ t. ordering_then (slice_cmp nat_cmp t b.test) (pairs_order a.pairs b.pairs)) h.0
    ∙ ap (λ t. ordering_then (slice_cmp nat_cmp c.test t) (pairs_order a.pairs b.pairs)) k.0
    ∙ ap (λ p. ordering_then (slice_cmp nat_cmp c.test d.test) (pairs_order p b.pairs)) h.1
    ∙ ap (λ p. ordering_then (slice_cmp nat_cmp c.test d.test) (pairs_order c.pairs p)) k.1

key_of_head : (world : World) (roots : List ℕ) (entries : List Entry) → AreReached world roots entries → (head : Entry) (verdict : Verdict)
    → In verdict (verdict_at world entries head) → IsAlike (entry_key world head) (verdict_key world verdict)
key_of_head world roots entries reached head verdict i =
    let m = made_cases world (group world entries head) verdict i in
    subst (λ (v : Verdict). IsAlike (entry_key world head) (verdict_key world v)) m.1 (made_key world roots entries reached head m.0)

by_key_rise : (world : World) (roots : List ℕ) (entries : List Entry) (verdicts : List Verdict) → AreReached world roots entries → AreGrouped world entries verdicts
    → IsRising (by_key world) verdicts
by_key_rise world roots entries verdicts reached cut =
    subst (IsRising (by_key world)) (sym cut.made) (rising_flat (group_of_entries world) (by_key world) (verdict_at world entries) cut.heads
    (λ head i. made_rises world (by_key world) (group world entries head))
    (λ a b v w i j less p q.
    sym (group_agree (entry_key world a) (entry_key world b) (verdict_key world v) (verdict_key world w)
    (key_of_head world roots entries reached a v p) (key_of_head world roots entries reached b w q)) ∙ less)
    cut.rise)

by_key_total : (world : World) → IsTotalOrder (by_key world)
by_key_total world = on_total (verdict_key world) group_order_total

pub verdict_order_total : (world : World) → IsTotalOrder (verdict_order world)
verdict_order_total world =
    then_total
    (then_total (on_total (λ (v : Verdict). status_number v.status) nat_cmp_total)
    (then_total (on_total (λ (v : Verdict). (verdict_key world v).test) nat_list_cmp_total) (on_total (λ (v : Verdict). v.label) nat_list_cmp_total)))
    (on_total (λ (v : Verdict). (verdict_key world v).pairs) pairs_order_total)

pub equal_key : (world : World) (a b : Verdict) → verdict_order world a b ≡ Equal → by_key world a b ≡ Equal
equal_key world a b e =
    let k = verdict_key world a in
    let l = verdict_key world b in
    let parts = then_equal (front_order world a b) (pairs_order k.pairs l.pairs) e in
    let front = then_equal (nat_cmp (status_number a.status) (status_number b.status)) (ordering_then (slice_cmp nat_cmp k.test l.test) (slice_cmp nat_cmp a.label b.label)) parts.0 in
    let tests = then_equal (slice_cmp nat_cmp k.test l.test) (slice_cmp nat_cmp a.label b.label) front.1 in
    ap (λ o. ordering_then o (pairs_order k.pairs l.pairs)) tests.0 ∙ parts.1

pub verdicts_rise : (world : World) (roots : List ℕ) (entries : List Entry) (verdicts sorted : List Verdict) → AreReached world roots entries
    → AreGrouped world entries verdicts → IsPermutation verdicts sorted → IsSorted (verdict_order world) sorted → IsRising (verdict_order world) sorted
verdicts_rise world roots entries verdicts sorted reached cut p up =
    let E : Verdict → Verdict → Bool = λ a b. is_eq (by_key world a b) in
    let apart : IsDistinct E sorted = IsDistinct-IsPermutation E (eq_by_cmp_equiv (by_key_total world)).symm verdicts sorted p
    (distinct_rising (by_key world) verdicts (by_key_rise world roots entries verdicts reached cut)) in
    rising_sorted (verdict_order_total world) E (λ a b apart_. unequal_from (verdict_order world a b) (λ e.
    true≢false (sym (ap is_eq (equal_key world a b e)) ∙ apart_))) sorted up apart
