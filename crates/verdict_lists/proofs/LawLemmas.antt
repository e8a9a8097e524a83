-- A world has one list of verdicts.
use Rattle.std.proofs.Common.{◌≡◌, ◌<◌, ◌+◌, ℕ, zero, cond, List, [], ◌∷◌, ◌++◌, map, length, Contains, refl, sym, ap, ◌∙◌, subst, arith}
use Rattle.std.specs.List.{count_by}
use Rattle.std.proofs.lemmas.List.Elements.{recursion_from_All}
use Rattle.std.proofs.lemmas.List.Sums.{sum_by-append}
use Rattle.names_realms.specs.Variants.{label_of}
use Rattle.verdict_lists.specs.declared.verdict.Verdict.{Verdict}
use Rattle.verdict_lists.specs.declared.verdict.VerdictStatus.{VerdictStatus}
use Rattle.verdict_lists.specs.World.{World, results_at}
use Rattle.verdict_lists.specs.Orders.{result_key_at, exoneration_key_at}
use Rattle.verdict_lists.specs.Statuses.{status_of}
use Rattle.verdict_lists.specs.Verdicts.{AreNumbered, AreVerdicts, IsAlike, IsVerdict, first_key, is_like, is_some, verdict_key}
use Rattle.verdict_lists.specs.Groups.{plain}
use Rattle.verdict_lists.specs.Laws.{OneList, OneListing}
use Rattle.verdict_lists.proofs.ListLemmas.{In, in_from, contains_from, every_at, in_map, from_map, rising_unique}
use Rattle.verdict_lists.proofs.OrderLemmas.{result_order_total, exoneration_order_total}
use Rattle.verdict_lists.proofs.VerdictLemmas.{alike_back, alike_on, verdict_order_total}
use Rattle.verdict_lists.proofs.ListingLemmas.{listed_order_total}
use Rattle.verdict_lists.proofs.NumberLemmas.{plain_rises}

same_results : (world : World) (roots : List ℕ) (v w : Verdict) → IsVerdict world roots v → IsVerdict world roots w
    → IsAlike (verdict_key world v) (verdict_key world w) → v.results ≡ w.results
same_results world roots v w h k alike =
    let one = verdict_key world v in
    let two = verdict_key world w in
    rising_unique (result_order_total world) v.results w.results h.results_rise k.results_rise
    (λ p i.
    let f = (h.results p).0 (contains_from v.results p i) in
    in_from w.results p ((k.results p).1 (f.0, alike_on two one (result_key_at world p) (alike_back one two alike) f.1)))
    (λ p i.
    let f = (k.results p).0 (contains_from w.results p i) in
    in_from v.results p ((h.results p).1 (f.0, alike_on one two (result_key_at world p) alike f.1)))

same_exonerations : (world : World) (roots : List ℕ) (v w : Verdict) → IsVerdict world roots v → IsVerdict world roots w
    → IsAlike (verdict_key world v) (verdict_key world w) → v.exonerations ≡ w.exonerations
same_exonerations world roots v w h k alike =
    let one = verdict_key world v in
    let two = verdict_key world w in
    rising_unique (exoneration_order_total world) v.exonerations w.exonerations h.exonerations_rise k.exonerations_rise
    (λ p i.
    let f = (h.exonerations p).0 (contains_from v.exonerations p i) in
    in_from w.exonerations p ((k.exonerations p).1 (f.0, alike_on two one (exoneration_key_at world p) (alike_back one two alike) f.1)))
    (λ p i.
    let f = (k.exonerations p).0 (contains_from w.exonerations p i) in
    in_from v.exonerations p ((h.exonerations p).1 (f.0, alike_on one two (exoneration_key_at world p) alike f.1)))

same_parts : (v w : Verdict) → v.status ≡ w.status → v.label ≡ w.label → v.results ≡ w.results → v.exonerations ≡ w.exonerations → plain v ≡ plain w
same_parts v w s l r e =
    let with_status : VerdictStatus → Verdict = λ x. record { status = x; label = v.label; results = v.results; exonerations = v.exonerations; ordinal = 0 } in
    let with_label : List ℕ → Verdict = λ x. record { status = w.status; label = x; results = v.results; exonerations = v.exonerations; ordinal = 0 } in
    let with_results : List ℕ → Verdict = λ x. record { status = w.status; label = w.label; results = x; exonerations = v.exonerations; ordinal = 0 } in
    let with_exonerations : List ℕ → Verdict = λ x. record { status = w.status; label = w.label; results = w.results; exonerations = x; ordinal = 0 } in
    ap with_status s ∙ ap with_label l ∙ ap with_results r ∙ ap with_exonerations e

pub same_plain : (world : World) (roots : List ℕ) (v w : Verdict) → IsVerdict world roots v → IsVerdict world roots w
    → IsAlike (verdict_key world v) (verdict_key world w) → plain v ≡ plain w
same_plain world roots v w h k alike =
    let r = same_results world roots v w h k alike in
    let e = same_exonerations world roots v w h k alike in
    same_parts v w
    (h.status ∙ ap (λ x. status_of (is_some x) (results_at world.results v.results)) e ∙ ap (λ x. status_of (is_some w.exonerations) (results_at world.results x)) r ∙ sym k.status)
    (h.label ∙ ap (λ x. label_of (first_key world x).pairs) r ∙ sym k.label)
    r e

some_place : (places : List ℕ) → 0 < length places → (p : ℕ) × Contains places p
some_place [] h = absurd (omega arith)
some_place (p ∷ places) h = (p, (zero, omega arith, refl))

in_other : (world : World) (roots : List ℕ) (one other : List Verdict) → AreVerdicts world roots one → AreVerdicts world roots other
    → (z : Verdict) → In z (map plain one) → In z (map plain other)
in_other world roots one other a b z i =
    let m = from_map plain one z i in
    let v = m.0 in
    let h = every_at (IsVerdict world roots) one (recursion_from_All (IsVerdict world roots) one a.each) v m.1 in
    let p = some_place v.results h.there in
    let held = (h.results p.0).0 p.1 in
    let found = b.all p.0 held.0 in
    let w = found.1 in
    let there : In w other = in_from other w (found.0, found.2, found.3) in
    let k = every_at (IsVerdict world roots) other (recursion_from_All (IsVerdict world roots) other b.each) w there in
    let back = (k.results p.0).0 found.4 in
    let alike = alike_on (verdict_key world v) (result_key_at world p.0) (verdict_key world w) held.1 (alike_back (verdict_key world w) (result_key_at world p.0) back.1) in
    subst (λ x. In x (map plain other)) (sym (same_plain world roots v w h k alike) ∙ m.2) (in_map plain other w there)

abbrev CountAlike : World → List Verdict → List Verdict → Type 0
CountAlike world before other = (x : Verdict) → count_by (is_like world x) before ≡ count_by (is_like world x) other

alike_more : (world : World) (before other : List Verdict) (x y : Verdict) → plain x ≡ plain y → CountAlike world before other
    → CountAlike world (before ++ x ∷ []) (other ++ y ∷ [])
alike_more world before other x y e h z =
    sum_by-append (λ (v : Verdict). cond (is_like world z v) 1 0) before (x ∷ [])
    ∙ ap (λ m. m + count_by (is_like world z) (x ∷ [])) (h z)
    ∙ ap (λ (v : Verdict). count_by (is_like world z) other + count_by (is_like world z) (v ∷ [])) e
    ∙ sym (sum_by-append (λ (v : Verdict). cond (is_like world z v) 1 0) other (y ∷ []))

same_head : (x y : Verdict) (xs ys : List Verdict) → (x ∷ xs) ≡ (y ∷ ys) → (x ≡ y) × (xs ≡ ys)
same_head x y xs ys e = (cc, cc)

pub same_verdict : (x y : Verdict) → plain x ≡ plain y → x.ordinal ≡ y.ordinal → x ≡ y
same_verdict x y e n =
    let numbered : ℕ → Verdict → Verdict = λ m v. record v { ordinal = m } in
    ap (λ m. numbered m x) n ∙ ap (numbered y.ordinal) e

same_numbered : (world : World) (before other xs ys : List Verdict) → CountAlike world before other → map plain xs ≡ map plain ys
    → AreNumbered world before xs → AreNumbered world other ys → xs ≡ ys
same_numbered world before other [] [] h e a b = refl
same_numbered world before other [] (y ∷ ys) h e a b = cc
same_numbered world before other (x ∷ xs) [] h e a b = cc
same_numbered world before other (x ∷ xs) (y ∷ ys) h e a b =
    let s = same_head (plain x) (plain y) (map plain xs) (map plain ys) e in
    let n : x.ordinal ≡ y.ordinal = a.0 ∙ h x ∙ ap (λ (v : Verdict). count_by (is_like world v) other) s.0 ∙ sym b.0 in
    let rest : xs ≡ ys = same_numbered world (before ++ x ∷ []) (other ++ y ∷ []) xs ys (alike_more world before other x y s.0 h) s.1 a.1 b.1 in
    ap (λ v. v ∷ xs) (same_verdict x y s.0 n) ∙ ap (λ vs. y ∷ vs) rest

pub one_list_is : OneList
one_list_is world roots one other a b =
    same_numbered world [] [] one other (λ x. refl)
    (rising_unique (verdict_order_total world) (map plain one) (map plain other) (plain_rises world one a.rise) (plain_rises world other b.rise)
    (in_other world roots one other a b) (in_other world roots other one b a))
    a.numbered b.numbered

pub one_listing_is : OneListing
one_listing_is world roots one other a b =
    rising_unique (listed_order_total world) one other a.rise b.rise
    (λ p i. in_from other p ((b.all p).1 ((a.all p).0 (contains_from one p i))))
    (λ p i. in_from one p ((a.all p).1 ((b.all p).0 (contains_from other p i))))
