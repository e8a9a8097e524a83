-- Pairs put in order by a map.
use Rattle.std.proofs.Common.{◌≡◌, ℕ, true, false, List, [], ◌∷◌, ◌++◌, length, map, slice_get, Option, Some, None, option_map, refl, sym, ap, subst, take, ◌∙◌}
use Rattle.std.specs.Prelude.{IsPermutation}
use Rattle.std.specs.Global.{Vec}
use Rattle.std.specs.Ordering.{nat_cmp, is_eq, match_ordering}
use Rattle.std.specs.Option.{is_some}
use Rattle.std.specs.BTreeMap.{insert_entry, is_at}
use Rattle.std.specs.Map.{lookup, keys_of}
use Rattle.std.specs.List.Sorted.{IsStrictlySortedBy}
use Rattle.std.specs.Cmp.Lexicographic.{slice_cmp, bytes_decides}
use Rattle.std.specs.declared.cmp.Ordering.{Ordering}
use Rattle.std.specs.declared.cmp.Ordering.TheVariants.{Less, Equal, Greater}
use Rattle.std.proofs.lemmas.Map.Text.{is_eq-slice_cmp}
use Rattle.std.proofs.lemmas.Map.Entries.{place_from_lookup}
use Rattle.std.proofs.lemmas.Option.{slice_get-map}
use Rattle.std.proofs.lemmas.List.{take_at}
use Rattle.std.proofs.lemmas.List.Sorted.{IsPermutation-refl, IsPermutation-sym, IsPermutation-cons, IsPermutation-map, IsPermutation-trans, IsPermutation-middle, IsPermutation-to_front}
use Rattle.names_realms.specs.declared.pairs.Pair.{Pair}
use Rattle.names_realms.specs.Variants.{IsAscending, IsFirstRepeat, pair_of}

-- a key with its value, as the map keeps them
abbrev pub Entry : Type 0
Entry = Vec ℕ × List ℕ

abbrev pub key_cmp : Vec ℕ → Vec ℕ → Ordering
key_cmp x y = slice_cmp nat_cmp x.items y.items

pub ascending_entries : (es : List Entry) → IsStrictlySortedBy key_cmp (keys_of es) → IsAscending (map pair_of es)
unfolding IsStrictlySortedBy
ascending_entries [] rises = tt
ascending_entries (e ∷ []) rises = tt
ascending_entries (e ∷ f ∷ es) rises = (rises.0.0, ascending_entries (f ∷ es) rises.1)

by_order : (o : Ordering) (e : Entry) (es : List Entry) (k : Vec ℕ) (v : List ℕ) → key_cmp k e.0 ≡ o → lookup (is_at (key_cmp k)) (e ∷ es) ≡ None → (lookup (is_at (key_cmp k)) es ≡ None → IsPermutation ((k, v) ∷ es) (insert_entry key_cmp es k v)) → IsPermutation ((k, v) ∷ e ∷ es) (match_ordering o ((k, v) ∷ e ∷ es) ((e.0, v) ∷ es) (e ∷ insert_entry key_cmp es k v))
by_order Less e es k v is none behind = IsPermutation-refl ((k, v) ∷ e ∷ es)
by_order Equal e es k v is none behind = let found = rw is at none in absurd cc
by_order Greater e es k v is none behind =
    IsPermutation-trans _ _ _ (IsPermutation-sym _ _ (IsPermutation-middle (e ∷ []) (k, v) es)) (IsPermutation-cons e _ _ (behind (rw is at none)))

pub insert_permutes : (es : List Entry) (k : Vec ℕ) (v : List ℕ) → lookup (is_at (key_cmp k)) es ≡ None → IsPermutation ((k, v) ∷ es) (insert_entry key_cmp es k v)
insert_permutes [] k v none = IsPermutation-refl ((k, v) ∷ [])
insert_permutes (e ∷ es) k v none = by_order (key_cmp k e.0) e es k v refl none (insert_permutes es k v)

same_key : (x y : List ℕ) → slice_cmp nat_cmp x y ≡ Equal → x ≡ y
same_key x y e = (bytes_decides x y).0 (sym (is_eq-slice_cmp x y) ∙ ap is_eq e)

equal_at : (o : Ordering) → is_eq o ≡ true → o ≡ Equal
equal_at Less e = cc
equal_at Equal e = refl
equal_at Greater e = cc

-- an entry with the key that is found
pub earlier_pair : (es : List Entry) (k : Vec ℕ) (old : List ℕ) → lookup (is_at (key_cmp k)) es ≡ Some old → (place : ℕ) × (earlier : Pair) × (slice_get (map pair_of es) place ≡ Some earlier) × (earlier.key ≡ k.items)
earlier_pair es k old found =
    let at = place_from_lookup (is_at (key_cmp k)) es old found in
    let here : slice_get (map pair_of es) at.0 ≡ Some (pair_of (at.1, old)) = slice_get-map pair_of es at.0 ∙ ap (option_map pair_of) at.2 in
    (at.0, pair_of (at.1, old), here, sym (same_key k.items at.1.items (equal_at (key_cmp k at.1) at.3)))

pub some_of : {A : Type 0} (o : Option A) → is_some o ≡ true → (v : A) × (o ≡ Some v)
some_of None e = absurd cc
some_of (Some v) e = (v, refl)

pub none_of : {A : Type 0} (o : Option A) → is_some o ≡ false → o ≡ None
none_of None e = refl
none_of (Some v) e = absurd cc

pub get_behind : (xs : List Pair) (y : Pair) (ys : List Pair) → slice_get (xs ++ y ∷ ys) (length xs) ≡ Some y
get_behind [] y ys = refl
get_behind (x ∷ xs) y ys = get_behind xs y ys

-- one pair more in the map
pub one_more : (passed : List Pair) (es : List Entry) (k : Vec ℕ) (pair : Pair) → k.items ≡ pair.key → lookup (is_at (key_cmp k)) es ≡ None → IsPermutation passed (map pair_of es) → IsPermutation (passed ++ pair ∷ []) (map pair_of (insert_entry key_cmp es k pair.value))
one_more passed es k pair is none same =
    let as_pair : pair_of (k, pair.value) ≡ pair = λ i. record { key = is i; value = pair.value } in
    let first = IsPermutation-trans _ _ _ (IsPermutation-to_front passed pair) (IsPermutation-cons pair passed (map pair_of es) same) in
    let front : IsPermutation (passed ++ pair ∷ []) (pair_of (k, pair.value) ∷ map pair_of es) = subst (λ (p : Pair). IsPermutation (passed ++ pair ∷ []) (p ∷ map pair_of es)) (sym as_pair) first in
    IsPermutation-trans _ _ _ front (IsPermutation-map pair_of ((k, pair.value) ∷ es) (insert_entry key_cmp es k pair.value) (insert_permutes es k pair.value none))

-- a pair whose key the map has already
pub first_repeat : (pairs passed rest : List Pair) (es : List Entry) (k : Vec ℕ) (pair : Pair) (old : List ℕ) → pairs ≡ passed ++ pair ∷ rest → k.items ≡ pair.key → lookup (is_at (key_cmp k)) es ≡ Some old → IsPermutation passed (map pair_of es) → IsStrictlySortedBy key_cmp (keys_of es) → IsFirstRepeat pairs (length passed)
first_repeat pairs passed rest es k pair old whole is found same rises =
    let front : take (length passed) pairs ≡ passed = rw whole (take_at passed (pair ∷ rest) (length passed) refl) in
    let here : slice_get pairs (length passed) ≡ Some pair = rw whole (get_behind passed pair rest) in
    let earlier = earlier_pair es k old found in
    (map pair_of es, subst (λ (ps : List Pair). IsPermutation ps (map pair_of es)) (sym front) same, ascending_entries es rises, pair, here, earlier.0, earlier.1, earlier.2, earlier.3 ∙ is)
