-- The orders of rows are total, and what is equal in them.
use Rattle.std.proofs.Common.{◌≡◌, ◌⊎◌, ℕ, true, false, List, [], ◌∷◌, Ordering, refl, sym, ap, ◌∙◌, subst, inl, inr}
use Rattle.std.specs.Cmp.{IsTotalOrder, bool_cmp_total}
use Rattle.std.specs.Cmp.Lexicographic.{slice_cmp, nat_list_cmp_total}
use Rattle.std.specs.Ordering.{nat_cmp, ordering_then, is_eq}
use Rattle.std.specs.declared.cmp.Ordering.TheVariants.{Less, Equal, Greater}
use Rattle.std.proofs.lemmas.Bool.{true≢false}
use Rattle.std.proofs.lemmas.Cmp.{then_total, on_total, lists_total, nat_cmp_total, tied_itself}
use Rattle.names_realms.specs.declared.pairs.Pair.{Pair}
use Rattle.lists.proofs.OrderLemmas.{nat_equal, same_text, then_equal}
use Rattle.verdict_lists.specs.declared.entries.Entry.{Entry}
use Rattle.verdict_lists.specs.declared.entries.Entry.TheVariants.{Result, Exoneration}
use Rattle.verdict_lists.specs.World.{World}
use Rattle.verdict_lists.specs.Orders.{Key, pair_order, pairs_order, group_order, own_order, key_order, result_key_at, exoneration_key_at, result_order, exoneration_order}
use Rattle.verdict_lists.specs.Verdicts.{IsAlike}
use Rattle.verdict_lists.specs.Entries.{entry_key, entry_order, number_order, kind_of, place_of}

pair_order_total : IsTotalOrder pair_order
pair_order_total =
    then_total (on_total (λ (p : Pair). p.key) nat_list_cmp_total) (on_total (λ (p : Pair). p.value) nat_list_cmp_total)

pub pairs_order_total : IsTotalOrder pairs_order
pairs_order_total = lists_total pair_order_total

pub group_order_total : IsTotalOrder group_order
group_order_total =
    then_total (on_total (λ (k : Key). k.test) nat_list_cmp_total) (on_total (λ (k : Key). k.pairs) pairs_order_total)

own_order_total : IsTotalOrder own_order
own_order_total =
    then_total (on_total (λ (k : Key). k.expected) bool_cmp_total)
    (then_total (on_total (λ (k : Key). k.invocation) nat_list_cmp_total)
    (then_total (on_total (λ (k : Key). k.id) nat_list_cmp_total) (on_total (λ (k : Key). k.place) nat_cmp_total)))

pub key_order_total : IsTotalOrder key_order
key_order_total = then_total group_order_total own_order_total

pub number_order_total : IsTotalOrder number_order
number_order_total = then_total (on_total kind_of nat_cmp_total) (on_total place_of nat_cmp_total)

pub entry_order_total : (world : World) → IsTotalOrder (entry_order world)
entry_order_total world = then_total (on_total (entry_key world) key_order_total) number_order_total

pub result_order_total : (world : World) → IsTotalOrder (result_order world)
result_order_total world = then_total (on_total (result_key_at world) key_order_total) nat_cmp_total

pub exoneration_order_total : (world : World) → IsTotalOrder (exoneration_order world)
exoneration_order_total world = then_total (on_total (exoneration_key_at world) key_order_total) nat_cmp_total

-- what is equal is the same
pub equal_from : (o : Ordering) → is_eq o ≡ true → o ≡ Equal
equal_from Less e = absurd (true≢false (sym e))
equal_from Equal e = refl
equal_from Greater e = absurd (true≢false (sym e))

pub unequal_from : (o : Ordering) → (o ≡ Equal → ⊥) → is_eq o ≡ false
unequal_from Less f = refl
unequal_from Equal f = absurd (f refl)
unequal_from Greater f = refl

pub then_less : (o p : Ordering) → ordering_then o p ≡ Less → (o ≡ Less) ⊎ (o ≡ Equal)
then_less Less p e = inl refl
then_less Equal p e = inr refl
then_less Greater p e = let never : Greater ≡ Less = e in cc

pub then_front : (o p : Ordering) → o ≡ Less → ordering_then o p ≡ Less
then_front o p e = ap (λ q. ordering_then q p) e

same_pair : (p q : Pair) → pair_order p q ≡ Equal → p ≡ q
same_pair p q e =
    let parts = then_equal (slice_cmp nat_cmp p.key q.key) (slice_cmp nat_cmp p.value q.value) e in
    let with_key : List ℕ → Pair = λ k. record { key = k; value = p.value } in
    let with_value : List ℕ → Pair = λ v. record { key = q.key; value = v } in
    ap with_key (same_text p.key q.key parts.0) ∙ ap with_value (same_text p.value q.value parts.1)

pub same_pairs : (xs ys : List Pair) → pairs_order xs ys ≡ Equal → xs ≡ ys
same_pairs [] [] e = refl
same_pairs [] (y ∷ ys) e = let never : Less ≡ Equal = e in cc
same_pairs (x ∷ xs) [] e = let never : Greater ≡ Equal = e in cc
same_pairs (x ∷ xs) (y ∷ ys) e =
    let parts = then_equal (pair_order x y) (pairs_order xs ys) e in
    ap (λ z. z ∷ xs) (same_pair x y parts.0) ∙ ap (λ zs. y ∷ zs) (same_pairs xs ys parts.1)

pub alike_from : (a b : Key) → group_order a b ≡ Equal → IsAlike a b
alike_from a b e =
    let parts = then_equal (slice_cmp nat_cmp a.test b.test) (pairs_order a.pairs b.pairs) e in
    (same_text a.test b.test parts.0, same_pairs a.pairs b.pairs parts.1)

pub equal_alike : (a b : Key) → IsAlike a b → group_order a b ≡ Equal
equal_alike a b h =
    let tests : slice_cmp nat_cmp a.test b.test ≡ Equal = subst (λ t. slice_cmp nat_cmp a.test t ≡ Equal) h.0 (tied_itself nat_list_cmp_total a.test) in
    let pairs : pairs_order a.pairs b.pairs ≡ Equal = subst (λ p. pairs_order a.pairs p ≡ Equal) h.1 (tied_itself pairs_order_total a.pairs) in
    ap (λ o. ordering_then o (pairs_order a.pairs b.pairs)) tests ∙ pairs

same_number : (a b : Entry) → number_order a b ≡ Equal → a ≡ b
same_number (Result p) (Result q) e = ap Result (nat_equal p q e)
same_number (Result p) (Exoneration q) e = let never : Less ≡ Equal = e in cc
same_number (Exoneration p) (Result q) e = let never : Greater ≡ Equal = e in cc
same_number (Exoneration p) (Exoneration q) e = ap Exoneration (nat_equal p q e)

pub same_entry : (world : World) (a b : Entry) → entry_order world a b ≡ Equal → a ≡ b
same_entry world a b e = same_number a b (then_equal (key_order (entry_key world a) (entry_key world b)) (number_order a b) e).1
