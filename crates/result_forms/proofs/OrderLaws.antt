-- Pairs that rise by their keys stand in one order alone.
use Rattle.std.proofs.Common.{◌≡◌, ◌⊎◌, inl, inr, ⊎_elim, ℕ, zero, suc, ◌<◌, List, [], ◌∷◌, length, refl, sym, subst, ◌∙◌, arith}
use Rattle.std.specs.List.{Contains, slice_index_or}
use Rattle.std.specs.Ordering.{nat_cmp}
use Rattle.std.specs.Cmp.Lexicographic.{slice_cmp}
use Rattle.std.specs.declared.cmp.Ordering.TheVariants.{Less, Equal}
use Rattle.std.proofs.lemmas.Cmp.{nat_list_cmp_total, tied_itself}
use Rattle.std.proofs.lemmas.List.Sorted.{Contains-permutation, IsPermutation-sym}
use Rattle.serde_json.specs.Data.{Data}
use Rattle.names_realms.specs.declared.pairs.Pair.{Pair}
use Rattle.names_realms.specs.Variants.{IsBefore, IsAscending}
use Rattle.json_fields.specs.Fields.{set_at}
use Rattle.field_kinds.specs.Variants.{IsVariant, def_name, pairs_at}

behind : (p : Pair) (ps : List Pair) → IsAscending (p ∷ ps) → IsAscending ps
behind p [] rises = tt
behind p (q ∷ ps) rises = rises.1

in_cons : (y : Pair) (ys : List Pair) (q : Pair) (k : ℕ) → k < length (y ∷ ys) → slice_index_or (y ∷ ys) k q ≡ q → (y ≡ q) ⊎ Contains ys q
in_cons y ys q zero lt e = inl e
in_cons y ys q (suc k) lt e = inr (k, omega (arith, lt), e)

cases : (y : Pair) (ys : List Pair) (q : Pair) → Contains (y ∷ ys) q → (y ≡ q) ⊎ Contains ys q
cases y ys q c = in_cons y ys q c.0 c.1 c.2

first : (y : Pair) (ys : List Pair) → Contains (y ∷ ys) y
first y ys = (0, omega arith, refl)

next : (y : Pair) (ys : List Pair) (q : Pair) → Contains ys q → Contains (y ∷ ys) q
next y ys q c = (suc (c.0), (let lt = c.1 in omega (arith, lt)), c.2)

later_at : (p : Pair) (ps : List Pair) → IsAscending (p ∷ ps) → (q : Pair) (k : ℕ) → k < length ps → slice_index_or ps k q ≡ q → IsBefore p q
later_at p [] rises q k lt e = absurd (omega (arith, lt))
later_at p (r ∷ ps) rises q zero lt e = subst (λ (x : Pair). IsBefore p x) e rises.0
later_at p (r ∷ ps) rises q (suc k) lt e = nat_list_cmp_total.trans p.key r.key q.key rises.0 (later_at r ps rises.1 q k (omega (arith, lt)) e)

later : (p : Pair) (ps : List Pair) → IsAscending (p ∷ ps) → (q : Pair) → Contains ps q → IsBefore p q
later p ps rises q c = later_at p ps rises q c.0 c.1 c.2

not_itself : (p : Pair) → IsBefore p p → ⊥
not_itself p less =
    let tied : slice_cmp nat_cmp p.key p.key ≡ Equal = tied_itself nat_list_cmp_total p.key in
    let no : Less ≡ Equal = sym less ∙ tied in
    cc no

-- none of two that differ stands before the other
never_both : (p q : Pair) → IsBefore p q → IsBefore q p → ⊥
never_both p q one two = not_itself p (nat_list_cmp_total.trans p.key q.key p.key one two)

same_first : (x y : Pair) (xs ys : List Pair) → IsAscending (x ∷ xs) → IsAscending (y ∷ ys) → Contains (y ∷ ys) x → Contains (x ∷ xs) y → x ≡ y
same_first x y xs ys rises rise c d =
    ⊎_elim (λ (e : y ≡ x). sym e)
    (λ (far : Contains ys x). ⊎_elim (λ (e : x ≡ y). e) (λ (off : Contains xs y). absurd (never_both x y (later x xs rises y off) (later y ys rise x far))) (cases x xs y d))
    (cases y ys x c)

rest : (x y : Pair) (xs ys : List Pair) → IsAscending (x ∷ xs) → x ≡ y → ((q : Pair) → Contains (x ∷ xs) q → Contains (y ∷ ys) q)
    → (q : Pair) → Contains xs q → Contains ys q
rest x y xs ys rises same sub q c =
    ⊎_elim (λ (e : y ≡ q). absurd (not_itself x (subst (λ (z : Pair). IsBefore x z) (sym (same ∙ e)) (later x xs rises q c)))) (λ (d : Contains ys q). d)
    (cases y ys q (sub q (next x xs q c)))

one_order : (xs ys : List Pair) → IsAscending xs → IsAscending ys → ((q : Pair) → Contains xs q → Contains ys q) → ((q : Pair) → Contains ys q → Contains xs q) → xs ≡ ys
one_order [] [] rises rise sub sup = refl
one_order [] (y ∷ ys) rises rise sub sup = let c = sup y (first y ys) in let lt = c.1 in absurd (omega (arith, lt))
one_order (x ∷ xs) [] rises rise sub sup = let c = sub x (first x xs) in let lt = c.1 in absurd (omega (arith, lt))
one_order (x ∷ xs) (y ∷ ys) rises rise sub sup =
    let same : x ≡ y = same_first x y xs ys rises rise (sub x (first x xs)) (sup y (first y ys)) in
    let others : xs ≡ ys = one_order xs ys (behind x xs rises) (behind y ys rise) (rest x y xs ys rises same sub) (rest y x ys xs rise (sym same) sup) in
    λ i. same i ∷ others i

-- a value means one variant at most
pub variant_one : (d : Data) (v w : List Pair) → IsVariant d v → IsVariant d w → v ≡ w
variant_one d v w a b =
    let ps : List Pair = pairs_at (set_at def_name d) in
    one_order v w a.order b.order
    (λ q c. Contains-permutation ps w q b.pairs (Contains-permutation v ps q (IsPermutation-sym ps v a.pairs) c))
    (λ q c. Contains-permutation ps v q a.pairs (Contains-permutation w ps q (IsPermutation-sym ps w b.pairs) c))
