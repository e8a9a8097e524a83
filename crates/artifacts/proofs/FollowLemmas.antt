-- Pages that are followed to the end.
use Rattle.std.proofs.Common.{◌≡◌, ◌⊎◌, ◌↔◌, ◌<◌, ◌≤◌, ◌-◌, ℕ, Bool, List, [], ◌∷◌, ◌++◌, length, take, drop, get_or, Contains, Option, Some, None, Ordering, refl, sym, ap, ◌∙◌, subst, inl, inr, arith}
use Rattle.std.specs.Cmp.{IsTotalOrder}
use Rattle.std.specs.Cmp.Lexicographic.{slice_cmp, nat_list_cmp_total}
use Rattle.std.specs.List.{flat_map}
use Rattle.std.specs.Ordering.{nat_cmp, ordering_reverse, is_le}
use Rattle.std.specs.declared.cmp.Ordering.TheVariants.{Less, Greater}
use Rattle.std.proofs.lemmas.Bool.{cases_lt}
use Rattle.std.proofs.lemmas.Cmp.{on_total, tied_itself}
use Rattle.std.proofs.lemmas.List.{append-nil, get_or_default, get_or-take, length-take, take-append-drop, take_all}
use Rattle.std.proofs.lemmas.List.Elements.{All-from_recursion, Contains-get_or}
use Rattle.names_realms.specs.declared.parents.Parent.{Parent}
use Rattle.artifacts.specs.declared.artifact.Artifact.{Artifact}
use Rattle.artifacts.specs.Artifacts.{Key, keys_of}
use Rattle.artifacts.specs.Laws.{Answer, AreFollowed, HasOneListing, PagesHaveAll, last_id, places_of_page}
use Rattle.lists.specs.Orders.{IsRising}
use Rattle.artifacts.specs.Orders.{id_at}
use Rattle.artifacts.specs.Pages.{IsAfter, IsListed, IsListing}
use Rattle.lists.proofs.OrderLemmas.{contains_first, contains_rest, first_or_rest}
use Rattle.artifacts.proofs.PageLemmas.{IsCut, behind, listed_key, not_shown, rising_drop, rising_pair, true_or_false, after_from}
use Rattle.artifacts.specs.Cuts.{is_shown}

-- One list has these members in this order.

first_or_rest_of : {X : Type 0} (x y : X) (xs : List X) → Contains (x ∷ xs) y → (x ≡ y) ⊎ Contains xs y
first_or_rest_of x y xs h = first_or_rest x y xs h.0 h.1 h.2

not_both : {X : Type 0} {R : X → X → Ordering} → IsTotalOrder R → (x y : X) → R x y ≡ Less → R y x ≡ Less → ⊥
not_both {X} {R} o x y a b =
    let no : Less ≡ Greater = sym a ∙ o.antisymm x y ∙ ap (λ r. ordering_reverse r) b in cc

below_all : {X : Type 0} (R : X → X → Ordering) (x : X) (xs : List X) → IsRising R (x ∷ xs) → (y : X) → Contains xs y → R x y ≡ Less
below_all R x xs h y held =
    subst (λ z. R x z ≡ Less) held.2 (All-from_recursion (λ z. R x z ≡ Less) xs h.0 held.0 y held.1)

tails_same : {X : Type 0} {R : X → X → Ordering} → IsTotalOrder R → (x : X) (xs ys : List X) → IsRising R (x ∷ xs)
    → ((z : X) → Contains (x ∷ xs) z → Contains (x ∷ ys) z) → (z : X) → Contains xs z → Contains ys z
tails_same {X} {R} o x xs ys h f z held =
    elim (first_or_rest_of x z ys (f z (contains_rest x z xs held))) [
      | inl same ↦ let below = below_all R x xs h z held in
          let it : R x x ≡ Less = subst (λ w. R x w ≡ Less) (sym same) below in absurd (not_both o x x it it)
      | inr rest ↦ rest
    ]

heads_same : {X : Type 0} {R : X → X → Ordering} → IsTotalOrder R → (x y : X) (xs ys : List X) → IsRising R (x ∷ xs) → IsRising R (y ∷ ys)
    → ((z : X) → Contains (x ∷ xs) z ↔ Contains (y ∷ ys) z) → x ≡ y
heads_same {X} {R} o x y xs ys h k same =
    elim (first_or_rest_of y x ys ((same x).0 (contains_first x xs))) [
      | inl e ↦ sym e
      | inr p ↦ elim (first_or_rest_of x y xs ((same y).1 (contains_first y ys))) [
        | inl e ↦ e
        | inr q ↦ absurd (not_both o x y (below_all R x xs h y q) (below_all R y ys k x p))
      ]
    ]

rising_unique : {X : Type 0} {R : X → X → Ordering} → IsTotalOrder R → (xs ys : List X) → IsRising R xs → IsRising R ys
    → ((z : X) → Contains xs z ↔ Contains ys z) → xs ≡ ys
rising_unique o [] [] h k same = refl
rising_unique o [] (y ∷ ys) h k same = let no = (same y).1 (contains_first y ys) in absurd (omega (arith, no.1))
rising_unique o (x ∷ xs) [] h k same = let no = (same x).0 (contains_first x xs) in absurd (omega (arith, no.1))
rising_unique {X} {R} o (x ∷ xs) (y ∷ ys) h k same =
    let e : x ≡ y = heads_same o x y xs ys h k same in
    let back : (z : X) → Contains (x ∷ ys) z → Contains (y ∷ ys) z = subst (λ w. (z : X) → Contains (x ∷ ys) z → Contains (w ∷ ys) z) e (λ z c. c) in
    let forth : (z : X) → Contains (y ∷ ys) z → Contains (x ∷ ys) z = subst (λ w. (z : X) → Contains (w ∷ ys) z → Contains (x ∷ ys) z) e (λ z c. c) in
    let k_ : IsRising R (x ∷ ys) = subst (λ w. IsRising R (w ∷ ys)) (sym e) k in
    let rest = rising_unique o xs ys h.1 k.1 (λ z. (
      tails_same o x xs ys h (λ w c. forth w ((same w).0 c)) z,
      tails_same o x ys xs k_ (λ w c. (same w).1 (back w c)) z,
    )) in
    ap (λ w. w ∷ xs) e ∙ ap (λ zs. y ∷ zs) rest

id_order_total : (rows : List Artifact) → IsTotalOrder (λ (p q : ℕ). slice_cmp nat_cmp (id_at (keys_of rows) p) (id_at (keys_of rows) q))
id_order_total rows = on_total (λ (p : ℕ). id_at (keys_of rows) p) nat_list_cmp_total

pub has_one_listing : HasOneListing
has_one_listing rows holder parent after places others one other =
    rising_unique (id_order_total rows) places others one.rising other.rising
    (λ p. (λ c. (other.whole p).1 ((one.whole p).0 c), λ c. (one.whole p).1 ((other.whole p).0 c)))

-- What is left behind a page.

id_is : (rows : List Artifact) (holder : ℕ) (parent : Parent) (after : Option (List ℕ)) (p : ℕ) → (listed : IsListed rows holder parent after p)
    → id_at (keys_of rows) p ≡ listed.0
id_is rows holder parent after p listed = ap (λ (k : Key). k.name.artifact) (listed_key rows holder parent after p listed)

is_after : (rows : List Artifact) (holder : ℕ) (parent : Parent) (after : Option (List ℕ)) (p : ℕ) → IsListed rows holder parent after p
    → IsAfter after (id_at (keys_of rows) p)
is_after rows holder parent after p listed = subst (IsAfter after) (sym (id_is rows holder parent after p listed)) listed.2

goes_on : (after : Option (List ℕ)) (a b : List ℕ) → IsAfter after a → slice_cmp nat_cmp a b ≡ Less → IsAfter after b
goes_on None a b h less = tt
goes_on (Some last) a b h less = nat_list_cmp_total.trans last a b h less

get_or_same : {X : Type 0} (xs : List X) (k : ℕ) (d e : X) → k < length xs → get_or xs k d ≡ get_or xs k e
get_or_same xs k d e within = get_or_default xs k d e within

-- a page cuts what is to be shown where the ids are no longer shown
page_cut : (rows : List Artifact) (all : List ℕ) (size : ℕ)
    → IsRising (λ p q. slice_cmp nat_cmp (id_at (keys_of rows) p) (id_at (keys_of rows) q)) all → 0 < size → size < length all
    → IsCut (λ p. is_shown (Some (id_at (keys_of rows) (get_or all (size - 1) 0))) (id_at (keys_of rows) p)) all size
page_cut rows all size rising some more =
    let keys = keys_of rows in
    let R : ℕ → ℕ → Ordering = λ p q. slice_cmp nat_cmp (id_at keys p) (id_at keys q) in
    let last = id_at keys (get_or all (size - 1) 0) in (
      λ k d low high. elim (cases_lt k (size - 1)) [
        | inl lt ↦
            let e = rising_pair R all rising k (size - 1) 0 lt (omega (arith, some, more)) in
            let same : get_or all k d ≡ get_or all k 0 = get_or_same all k d 0 (omega (arith, high, more)) in
            ap (λ p. is_le (slice_cmp nat_cmp (id_at keys p) last)) same ∙ ap is_le e
        | inr ge ↦
            let at : k ≡ size - 1 = omega (arith, high, ge, some) in
            let same : get_or all k d ≡ get_or all (size - 1) 0 = get_or_same all k d 0 (omega (arith, high, more)) ∙ ap (λ n. get_or all n 0) at in
            ap (λ p. is_le (slice_cmp nat_cmp (id_at keys p) last)) same ∙ ap is_le (tied_itself nat_list_cmp_total last)
      ],
      λ k d low high.
          let e = rising_pair R all rising (size - 1) k 0 (omega (arith, some, low)) high in
          let same : get_or all k d ≡ get_or all k 0 = get_or_same all k d 0 high in
          ap (λ p. is_shown (Some last) (id_at keys p)) same ∙ not_shown (Some last) (id_at keys (get_or all k 0)) e,
    )

rest_listing : (rows : List Artifact) (holder : ℕ) (parent : Parent) (after : Option (List ℕ)) (all : List ℕ) (size : ℕ)
    → IsListing rows holder parent after all → 0 < size → size < length all
    → IsListing rows holder parent (Some (id_at (keys_of rows) (get_or all (size - 1) 0))) (drop size all)
rest_listing rows holder parent after all size listing some more =
    let keys = keys_of rows in
    let at = get_or all (size - 1) 0 in
    let last = id_at keys at in
    let cut = page_cut rows all size listing.rising some more in
    let test : ℕ → Bool = λ p. is_shown (Some last) (id_at keys p) in
    let held = (listing.whole at).0 (Contains-get_or all (size - 1) 0 (omega (arith, some, more))) in
    let low : size ≤ length all = omega (arith, more) in
    record {
      rising = rising_drop (λ p q. slice_cmp nat_cmp (id_at keys p) (id_at keys q)) size all listing.rising;
      whole = λ p. (
        λ c.
            let both = (behind test all size low cut p).0 c in
            let listed = (listing.whole p).0 both.0 in
            (listed.0, listed.1, subst (IsAfter (Some last)) (id_is rows holder parent after p listed) (after_from (Some last) (id_at keys p) both.1)),
        λ listed.
            let behind_last = is_after rows holder parent (Some last) p listed in
            let before : IsListed rows holder parent after p = (
              listed.0,
              listed.1,
              subst (IsAfter after) (id_is rows holder parent (Some last) p listed)
                  (goes_on after last (id_at keys p) (is_after rows holder parent after at held) behind_last),
            ) in
            (behind test all size low cut p).1 ((listing.whole p).1 before, not_shown (Some last) (id_at keys p) behind_last),
      );
    }

last_of_page : (rows : List Artifact) (all : List ℕ) (size : ℕ) → 0 < size → size < length all
    → last_id rows (take size all) ≡ id_at (keys_of rows) (get_or all (size - 1) 0)
last_of_page rows all size some more =
    let count : length (take size all) - 1 ≡ size - 1 = omega (arith, length-take size all, more) in
    ap (λ n. id_at (keys_of rows) (get_or (take size all) n 0)) count
    ∙ ap (λ p. id_at (keys_of rows) p) (get_or-take size all (size - 1) 0 (omega (arith, some)))

followed : (rows : List Artifact) (holder : ℕ) (parent : Parent) (after : Option (List ℕ)) (pages : List Answer)
    → AreFollowed rows holder parent after pages → IsListing rows holder parent after (flat_map places_of_page pages)
followed rows holder parent after [] h = absurd h
followed rows holder parent after (page ∷ []) h =
    let few : length h.0.all ≤ page.size = elim (cases_lt page.size (length h.0.all)) [
      | inl lt ↦ absurd (true_or_false page.more (h.0.left.1 lt) h.1)
      | inr ge ↦ ge
    ] in
    subst (IsListing rows holder parent after) (sym (append-nil page.places ∙ h.0.first ∙ take_all page.size h.0.all few)) h.0.listing
followed rows holder parent after (page ∷ (next ∷ pages)) h =
    let all = h.0.all in
    let size = page.size in
    let more = h.0.left.0 h.1 in
    let last : last_id rows page.places ≡ id_at (keys_of rows) (get_or all (size - 1) 0) =
    ap (λ ps. last_id rows ps) h.0.first ∙ last_of_page rows all size h.2 more in
    let rest = flat_map places_of_page (next ∷ pages) in
    let left = subst (λ id. IsListing rows holder parent (Some id) rest) last
    (followed rows holder parent (Some (last_id rows page.places)) (next ∷ pages) h.3) in
    let is : rest ≡ drop size all = has_one_listing rows holder parent (Some (id_at (keys_of rows) (get_or all (size - 1) 0))) rest (drop size all) left
    (rest_listing rows holder parent after all size h.0.listing h.2 more) in
    let whole : page.places ++ rest ≡ all = ap (λ ps. ps ++ rest) h.0.first ∙ ap (λ ps. take size all ++ ps) is ∙ take-append-drop size all in
    subst (IsListing rows holder parent after) (sym whole) h.0.listing

pub pages_have_all : PagesHaveAll
pages_have_all rows holder parent pages h = followed rows holder parent None pages h
