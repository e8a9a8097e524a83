-- The list of reached results.
use Rattle.std.proofs.Common.{◌≡◌, ℕ, List, Bool, refl, sym, ap, ◌∙◌, subst}
use Rattle.std.specs.Cmp.{IsTotalOrder}
use Rattle.std.specs.Cmp.Lexicographic.{nat_list_cmp_total}
use Rattle.std.specs.List.{IsDistinct}
use Rattle.std.specs.List.Sorted.{IsPermutation, IsSorted}
use Rattle.std.specs.Ordering.{nat_cmp, is_eq}
use Rattle.std.specs.declared.cmp.Ordering.TheVariants.{Equal}
use Rattle.std.proofs.lemmas.Bool.{true≢false}
use Rattle.std.proofs.lemmas.Cmp.{then_total, on_total, nat_cmp_total, tied_itself, eq_by_cmp_equiv}
use Rattle.std.proofs.lemmas.List.Sorted.{Contains-permutation, IsPermutation-sym}
use Rattle.std.proofs.lemmas.Map.Keys.{IsDistinct-IsPermutation}
use Rattle.lists.proofs.OrderLemmas.{nat_equal, then_equal}
use Rattle.verdict_lists.specs.declared.entries.Entry.{Entry}
use Rattle.verdict_lists.specs.declared.entries.Entry.TheVariants.{Result}
use Rattle.verdict_lists.specs.World.{World}
use Rattle.lists.specs.Orders.{IsRising}
use Rattle.verdict_lists.specs.Orders.{Key, result_key_at, result_order}
use Rattle.verdict_lists.specs.Entries.{AreReached, entry_order, result_in}
use Rattle.verdict_lists.specs.Groups.{results_in}
use Rattle.verdict_lists.specs.Listing.{AreListed, listed_order, names_order}
use Rattle.verdict_lists.proofs.ListLemmas.{In, in_from, contains_from, from_picked, in_picked, rising_picked, rising_sorted, distinct_rising}
use Rattle.verdict_lists.proofs.OrderLemmas.{result_order_total, unequal_from}
use Rattle.verdict_lists.proofs.VerdictLemmas.{result_entry, results_rise_}

pub names_order_total : IsTotalOrder names_order
names_order_total =
    then_total (on_total (λ (k : Key). k.invocation) nat_list_cmp_total)
    (then_total (on_total (λ (k : Key). k.test) nat_list_cmp_total) (on_total (λ (k : Key). k.id) nat_list_cmp_total))

pub listed_order_total : (world : World) → IsTotalOrder (listed_order world)
listed_order_total world = then_total (on_total (result_key_at world) names_order_total) nat_cmp_total

pub are_listed : (world : World) (roots : List ℕ) (entries : List Entry) (sorted : List ℕ) → AreReached world roots entries
    → IsPermutation (results_in entries) sorted → IsSorted (listed_order world) sorted → AreListed world roots sorted
are_listed world roots entries sorted reached p up =
    let places = results_in entries in
    let o = result_order_total world in
    let E : ℕ → ℕ → Bool = λ a b. is_eq (result_order world a b) in
    let rises : IsRising (result_order world) places =
    rising_picked (entry_order world) (result_order world) result_in entries (λ a b m n i j e f. results_rise_ world a b m n e f) reached.rise in
    let apart : IsDistinct E sorted = IsDistinct-IsPermutation E (eq_by_cmp_equiv o).symm places sorted p (distinct_rising (result_order world) places rises) in
    record {
      all = λ place. (
        λ held.
            let f = from_picked result_in entries place (in_from places place (Contains-permutation sorted places place (IsPermutation-sym places sorted p) held)) in
            (reached.all (Result place)).0 (contains_from entries (Result place) (subst (λ e. In e entries) (result_entry f.0 place f.2) f.1)),
        λ there.
            Contains-permutation places sorted place p (contains_from places place
            (in_picked result_in entries (Result place) place (in_from entries (Result place) ((reached.all (Result place)).1 there)) refl)),
      );
      rise = rising_sorted (listed_order_total world) E (λ a b apart_. unequal_from (listed_order world a b) (λ e.
          let same : a ≡ b = nat_equal a b (then_equal (names_order (result_key_at world a) (result_key_at world b)) (nat_cmp a b) e).1 in
          let tied : result_order world a b ≡ Equal = subst (λ x. result_order world a x ≡ Equal) same (tied_itself o a) in
          true≢false (sym (ap is_eq tied) ∙ apart_))) sorted up apart;
    }
