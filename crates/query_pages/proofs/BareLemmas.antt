-- Worlds without what is restricted in their rows: they have the lists that they had.
use Rattle.std.proofs.Common.{◌≡◌, ◌&&◌, ℕ, zero, suc, Bool, if◌then◌else◌, List, [], ◌∷◌, ◌++◌, map, get_or, Option, Some, None, Ordering, refl, sym, ap, ◌∙◌, subst}
use Rattle.std.specs.List.{cons_option, list_all, slice_get}
use Rattle.std.specs.Option.{option_map}
use Rattle.std.specs.Ordering.{nat_cmp, ordering_then, is_eq}
use Rattle.std.proofs.lemmas.List.Elements.{All-from_recursion, recursion_from_All}
use Rattle.names_realms.specs.Variants.{label_of}
use Rattle.inclusion_graph.specs.Walks.{IsReached}
use Rattle.test_results.specs.declared.exoneration.TestExoneration.{TestExoneration}
use Rattle.test_results.specs.declared.result.TestResult.{TestResult}
use Rattle.verdict_lists.specs.declared.verdict.Verdict.{Verdict}
use Rattle.verdict_lists.specs.declared.verdict.VerdictStatus.{VerdictStatus}
use Rattle.verdict_lists.specs.declared.verdict.VerdictStatus.TheVariants.{Unexpected, UnexpectedlySkipped, Flaky, Exonerated, Expected}
use Rattle.verdict_lists.specs.Listing.{AreListed, listed_order, names_order}
use Rattle.verdict_lists.specs.Orders.{Key, exoneration_key, exoneration_key_at, exoneration_order, key_order, no_key, pairs_order, result_key, result_key_at, result_order}
use Rattle.verdict_lists.specs.Statuses.{is_expected, is_skipped, is_unexpected, status_of}
use Rattle.verdict_lists.specs.Verdicts.{AreNumbered, AreVerdicts, IsAlike, IsVerdict, first_key, front_order, fronts_order, is_like, is_some, verdict_key, verdict_order}
use Rattle.verdict_lists.specs.World.{World, IsReachedExoneration, IsReachedResult, results_at}
use Rattle.verdict_lists.proofs.EntryLemmas.{rising_agree}
use Rattle.verdict_lists.proofs.KeptLemmas.{got_mapped}
use Rattle.verdict_lists.proofs.ListLemmas.{every_at, every_from}
use Rattle.verdict_lists.proofs.NumberLemmas.{count_agree}

-- the rows without what is restricted
abbrev pub bare_result : TestResult → TestResult
bare_result row = record row { summary = []; tags = []; message = []; properties = [] }

abbrev pub bare_exoneration : TestExoneration → TestExoneration
bare_exoneration row = record row { explanation = [] }

abbrev pub bare : World → World
bare world = record {
  invocations = world.invocations;
  edges = world.edges;
  results = map bare_result world.results;
  exonerations = map bare_exoneration world.exonerations;
}

map_twice : {X Y Z : Type 0} (f : Y → Z) (g : X → Y) (h : X → Z) (xs : List X) → ((x : X) → f (g x) ≡ h x) → map f (map g xs) ≡ map h xs
map_twice f g h [] e = refl
map_twice f g h (x ∷ xs) e = ap (λ z. z ∷ map f (map g xs)) (e x) ∙ ap (λ zs. h x ∷ zs) (map_twice f g h xs e)

got_back : {X Y : Type 0} (f : X → Y) (xs : List X) (k : ℕ) (y : Y) → slice_get (map f xs) k ≡ Some y → (x : X) × (slice_get xs k ≡ Some x) × (f x ≡ y)
got_back f [] k y e = let never : None ≡ Some y = e in cc
got_back f (x ∷ xs) zero y e = (x, refl, cc)
got_back f (x ∷ xs) (suc k) y e = got_back f xs k y e

got_map : {X Y : Type 0} (f : X → Y) (xs : List X) (k : ℕ) → slice_get (map f xs) k ≡ option_map f (slice_get xs k)
got_map f [] k = refl
got_map f (x ∷ xs) zero = refl
got_map f (x ∷ xs) (suc k) = got_map f xs k

-- keys
bare_key : (w : World) (p : ℕ) → result_key_at (bare w) p ≡ result_key_at w p
bare_key w p = ap (λ (ks : List Key). get_or ks p no_key) (map_twice (result_key (bare w)) bare_result (result_key w) w.results (λ row. refl))

bare_told : (w : World) (p : ℕ) → exoneration_key_at (bare w) p ≡ exoneration_key_at w p
bare_told w p = ap (λ (ks : List Key). get_or ks p no_key) (map_twice (exoneration_key (bare w)) bare_exoneration (exoneration_key w) w.exonerations (λ row. refl))

bare_first : (w : World) (places : List ℕ) → first_key (bare w) places ≡ first_key w places
bare_first w [] = refl
bare_first w (p ∷ places) = bare_key w p

-- what is reached
reached_bare : (w : World) (roots : List ℕ) (p : ℕ) → IsReachedResult w roots p → IsReachedResult (bare w) roots p
reached_bare w roots p h = (bare_result h.0, got_mapped bare_result w.results p h.0 h.1, h.2)

reached_back : (w : World) (roots : List ℕ) (p : ℕ) → IsReachedResult (bare w) roots p → IsReachedResult w roots p
reached_back w roots p h =
    let g = got_back bare_result w.results p h.0 h.1 in
    (g.0, g.1, subst (λ (r : TestResult). IsReached w.edges roots r.holder) (sym g.2) h.2)

told_bare : (w : World) (roots : List ℕ) (p : ℕ) → IsReachedExoneration w roots p → IsReachedExoneration (bare w) roots p
told_bare w roots p h = (bare_exoneration h.0, got_mapped bare_exoneration w.exonerations p h.0 h.1, h.2)

told_back : (w : World) (roots : List ℕ) (p : ℕ) → IsReachedExoneration (bare w) roots p → IsReachedExoneration w roots p
told_back w roots p h =
    let g = got_back bare_exoneration w.exonerations p h.0 h.1 in
    (g.0, g.1, subst (λ (r : TestExoneration). IsReached w.edges roots r.holder) (sym g.2) h.2)

-- statuses
cons_map : {X Y : Type 0} (f : X → Y) (o : Option X) (xs : List X) → cons_option (option_map f o) (map f xs) ≡ map f (cons_option o xs)
cons_map f None xs = refl
cons_map f (Some x) xs = refl

at_map : (rows : List TestResult) (places : List ℕ) → results_at (map bare_result rows) places ≡ map bare_result (results_at rows places)
at_map rows [] = refl
at_map rows (p ∷ places) =
    ap (λ (o : Option TestResult). cons_option o (results_at (map bare_result rows) places)) (got_map bare_result rows p)
    ∙ ap (cons_option (option_map bare_result (slice_get rows p))) (at_map rows places)
    ∙ cons_map bare_result (slice_get rows p) (results_at rows places)

all_map : {X Y : Type 0} (p : Y → Bool) (q : X → Bool) (f : X → Y) (xs : List X) → ((x : X) → p (f x) ≡ q x) → list_all p (map f xs) ≡ list_all q xs
all_map p q f [] e = refl
all_map p q f (x ∷ xs) e = ap (λ b. b && list_all p (map f xs)) (e x) ∙ ap (λ b. q x && b) (all_map p q f xs e)

abbrev kind_of : Bool → Bool → Bool → Bool → VerdictStatus
kind_of exonerated unexpected skipped expected =
    if exonerated then Exonerated
    else (if unexpected then (if skipped then UnexpectedlySkipped else Unexpected) else (if expected then Expected else Flaky))

status_map : (b : Bool) (rows : List TestResult) → status_of b (map bare_result rows) ≡ status_of b rows
status_map b rows =
    let u = map bare_result rows in
    ap (λ x. kind_of b x (list_all is_skipped u) (list_all is_expected u)) (all_map is_unexpected is_unexpected bare_result rows (λ r. refl))
    ∙ ap (λ x. kind_of b (list_all is_unexpected rows) x (list_all is_expected u)) (all_map is_skipped is_skipped bare_result rows (λ r. refl))
    ∙ ap (λ x. kind_of b (list_all is_unexpected rows) (list_all is_skipped rows) x) (all_map is_expected is_expected bare_result rows (λ r. refl))

status_bare : (w : World) (b : Bool) (places : List ℕ) → status_of b (results_at (bare w).results places) ≡ status_of b (results_at w.results places)
status_bare w b places = ap (status_of b) (at_map w.results places) ∙ status_map b (results_at w.results places)

-- orders
by_keys : (order : Key → Key → Ordering) (a b c d : Key) (p q : ℕ) → a ≡ c → b ≡ d
    → ordering_then (order a b) (nat_cmp p q) ≡ ordering_then (order c d) (nat_cmp p q)
by_keys order a b c d p q e f =
    ap (λ k. ordering_then (order k b) (nat_cmp p q)) e ∙ ap (λ k. ordering_then (order c k) (nat_cmp p q)) f

result_order_bare : (w : World) (p q : ℕ) → result_order (bare w) p q ≡ result_order w p q
result_order_bare w p q =
    by_keys key_order (result_key_at (bare w) p) (result_key_at (bare w) q) (result_key_at w p) (result_key_at w q) p q (bare_key w p) (bare_key w q)

exoneration_order_bare : (w : World) (p q : ℕ) → exoneration_order (bare w) p q ≡ exoneration_order w p q
exoneration_order_bare w p q =
    by_keys key_order (exoneration_key_at (bare w) p) (exoneration_key_at (bare w) q) (exoneration_key_at w p) (exoneration_key_at w q) p q (bare_told w p) (bare_told w q)

listed_order_bare : (w : World) (p q : ℕ) → listed_order (bare w) p q ≡ listed_order w p q
listed_order_bare w p q =
    by_keys names_order (result_key_at (bare w) p) (result_key_at (bare w) q) (result_key_at w p) (result_key_at w q) p q (bare_key w p) (bare_key w q)

front_order_bare : (w : World) (a b : Verdict) → front_order (bare w) a b ≡ front_order w a b
front_order_bare w a b =
    ap (λ (k : Key). fronts_order a k.test b (verdict_key (bare w) b).test) (bare_first w a.results)
    ∙ ap (λ (k : Key). fronts_order a (verdict_key w a).test b k.test) (bare_first w b.results)

verdict_order_bare : (w : World) (a b : Verdict) → verdict_order (bare w) a b ≡ verdict_order w a b
verdict_order_bare w a b =
    ap (λ o. ordering_then o (pairs_order (verdict_key (bare w) a).pairs (verdict_key (bare w) b).pairs)) (front_order_bare w a b)
    ∙ ap (λ (k : Key). ordering_then (front_order w a b) (pairs_order k.pairs (verdict_key (bare w) b).pairs)) (bare_first w a.results)
    ∙ ap (λ (k : Key). ordering_then (front_order w a b) (pairs_order (verdict_key w a).pairs k.pairs)) (bare_first w b.results)

alike_by : (a b c d : Key) → a ≡ c → b ≡ d → IsAlike a b → IsAlike c d
alike_by a b c d e f h = subst (λ k. IsAlike k d) e (subst (IsAlike a) f h)

-- verdicts
verdict_bare : (w : World) (roots : List ℕ) (v : Verdict) → IsVerdict w roots v → IsVerdict (bare w) roots v
verdict_bare w roots v h =
    let key = verdict_key w v in
    let own = verdict_key (bare w) v in
    let same : own ≡ key = bare_first w v.results in
    record {
      there = h.there;
      results = λ p. (
        λ held.
            let f = (h.results p).0 held in
            (reached_bare w roots p f.0, alike_by key (result_key_at w p) own (result_key_at (bare w) p) (sym same) (sym (bare_key w p)) f.1),
        λ both. (h.results p).1
            (reached_back w roots p both.0, alike_by own (result_key_at (bare w) p) key (result_key_at w p) same (bare_key w p) both.1),
      );
      exonerations = λ p. (
        λ held.
            let f = (h.exonerations p).0 held in
            (told_bare w roots p f.0, alike_by key (exoneration_key_at w p) own (exoneration_key_at (bare w) p) (sym same) (sym (bare_told w p)) f.1),
        λ both. (h.exonerations p).1
            (told_back w roots p both.0, alike_by own (exoneration_key_at (bare w) p) key (exoneration_key_at w p) same (bare_told w p) both.1),
      );
      results_rise = rising_agree (result_order w) (result_order (bare w)) v.results (λ p q i j e. result_order_bare w p q ∙ e) h.results_rise;
      exonerations_rise = rising_agree (exoneration_order w) (exoneration_order (bare w)) v.exonerations (λ p q i j e. exoneration_order_bare w p q ∙ e) h.exonerations_rise;
      status = h.status ∙ sym (status_bare w (is_some v.exonerations) v.results);
      label = h.label ∙ ap (λ (k : Key). label_of k.pairs) (sym same);
    }

numbered_bare : (w : World) (before list : List Verdict) → AreNumbered w before list → AreNumbered (bare w) before list
numbered_bare w before [] h = tt
numbered_bare w before (v ∷ list) h = (
  h.0 ∙ count_agree (is_like w v) (is_like (bare w) v) before (λ u. ap is_eq (sym (front_order_bare w v u))),
  numbered_bare w (before ++ v ∷ []) list h.1,
)

pub verdicts_bare : (w : World) (roots : List ℕ) (list : List Verdict) → AreVerdicts w roots list → AreVerdicts (bare w) roots list
verdicts_bare w roots list h = record {
  each = All-from_recursion (IsVerdict (bare w) roots) list (every_from (IsVerdict (bare w) roots) list (λ v i.
      verdict_bare w roots v (every_at (IsVerdict w roots) list (recursion_from_All (IsVerdict w roots) list h.each) v i)));
  all = λ p r. h.all p (reached_back w roots p r);
  rise = rising_agree (verdict_order w) (verdict_order (bare w)) list (λ a b i j e. verdict_order_bare w a b ∙ e) h.rise;
  numbered = numbered_bare w [] list h.numbered;
}

pub listed_bare : (w : World) (roots list : List ℕ) → AreListed w roots list → AreListed (bare w) roots list
listed_bare w roots list h = record {
  all = λ p. (λ held. reached_bare w roots p ((h.all p).0 held), λ r. (h.all p).1 (reached_back w roots p r));
  rise = rising_agree (listed_order w) (listed_order (bare w)) list (λ a b i j e. listed_order_bare w a b ∙ e) h.rise;
}

-- The keys of two worlds that are one without what is restricted.
pub first_same : (one other : World) → bare one ≡ bare other → (places : List ℕ) → first_key one places ≡ first_key other places
first_same one other e places = sym (bare_first one places) ∙ ap (λ w. first_key w places) e ∙ bare_first other places

pub key_same : (one other : World) → bare one ≡ bare other → (p : ℕ) → result_key_at one p ≡ result_key_at other p
key_same one other e p = sym (bare_key one p) ∙ ap (λ w. result_key_at w p) e ∙ bare_key other p
