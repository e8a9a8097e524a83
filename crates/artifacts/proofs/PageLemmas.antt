-- Pages of the artifacts of a parent.
use Rattle.std.proofs.Common.{◌≡◌, ◌⊎◌, ◌↔◌, ◌<◌, ◌≤◌, ◌+◌, ◌-◌, ℕ, zero, suc, Bool, true, false, List, [], ◌∷◌, ◌++◌, length, take, drop, get_or, Contains, Option, Some, None, Ordering, refl, sym, ap, ◌∙◌, subst, inl, inr, arith}
use Rattle.std.specs.Cmp.Lexicographic.{slice_cmp, nat_list_cmp_total}
use Rattle.std.specs.List.{All, AllByRecursion}
use Rattle.std.specs.List.Sorted.{IsPartitionedBy, IsPartitionPoint}
use Rattle.std.specs.Ordering.{nat_cmp, ordering_then, ordering_reverse, is_le}
use Rattle.std.specs.declared.cmp.Ordering.TheVariants.{Less, Equal, Greater}
use Rattle.std.proofs.lemmas.Bool.{cases_lt}
use Rattle.std.proofs.lemmas.Cmp.{nat_cmp_total, tied_itself}
use Rattle.std.proofs.lemmas.List.{get_or-take, get_or-drop, length-map, length-take, length-drop, take-append-drop}
use Rattle.std.proofs.lemmas.List.Elements.{All-from_recursion, Contains-get_or}
use Rattle.std.proofs.lemmas.Option.{get_or_from_slice_get, slice_get-get_or, slice_get_within}
use Rattle.names_realms.specs.declared.parents.Parent.{Parent}
use Rattle.artifacts.specs.declared.artifact.Artifact.{Artifact}
use Rattle.artifacts.specs.Artifacts.{Key, key_of, keys_of, named}
use Rattle.artifacts.specs.Cuts.{HaveOneHolder, before_at, every_id, is_shown, stands_before}
use Rattle.lists.specs.Orders.{IsRising}
use Rattle.artifacts.specs.Orders.{IsKeyIndex, id_at, key_at, key_order, no_key, parent_order, places_order}
use Rattle.artifacts.specs.Pages.{IsAfter, IsListed, IsListing}
use Rattle.artifacts.proofs.KeyLemmas.{key_same, parent_order_total, same_parent}
use Rattle.lists.proofs.OrderLemmas.{rising_agree}

pub true_or_false : (b : Bool) → b ≡ true → b ≡ false → ⊥
true_or_false b t f = let no : true ≡ false = sym t ∙ f in cc

then_less : (o p : Ordering) → ordering_then o p ≡ Less → (o ≡ Less) ⊎ ((o ≡ Equal) × (p ≡ Less))
then_less Less p e = inl refl
then_less Equal p e = inr (refl, e)
then_less Greater p e = let no : Greater ≡ Less = e in cc

le_cases : (o : Ordering) → is_le o ≡ true → (o ≡ Less) ⊎ (o ≡ Equal)
le_cases Less e = inl refl
le_cases Equal e = inr refl
le_cases Greater e = let no : false ≡ true = e in cc

not_le : (o : Ordering) → is_le o ≡ false → o ≡ Greater
not_le Less e = let no : true ≡ false = e in cc
not_le Equal e = let no : true ≡ false = e in cc
not_le Greater e = refl

before_true : (o : Ordering) (b : Bool) → before_at o b ≡ true → (o ≡ Less) ⊎ ((o ≡ Equal) × (b ≡ true))
before_true Less b e = inl refl
before_true Equal b e = inr (refl, e)
before_true Greater b e = let no : false ≡ true = e in cc

-- up to the parent, and not before what is still to be shown: of the parent, and still to be shown
between : (o : Ordering) (b : Bool) → before_at o true ≡ true → before_at o b ≡ false → (o ≡ Equal) × (b ≡ false)
between Less b e f = let no : true ≡ false = f in cc
between Equal b e f = (refl, f)
between Greater b e f = let no : false ≡ true = e in cc

-- An order of texts.

text_order : List ℕ → List ℕ → Ordering
text_order = λ xs ys. slice_cmp nat_cmp xs ys

turned : (xs ys : List ℕ) → slice_cmp nat_cmp xs ys ≡ Greater → slice_cmp nat_cmp ys xs ≡ Less
turned xs ys e = nat_list_cmp_total.antisymm ys xs ∙ ap (λ o. ordering_reverse o) e

turned_back : (xs ys : List ℕ) → slice_cmp nat_cmp xs ys ≡ Less → slice_cmp nat_cmp ys xs ≡ Greater
turned_back xs ys e = nat_list_cmp_total.antisymm ys xs ∙ ap (λ o. ordering_reverse o) e

abbrev IsMonotone : (List ℕ → Bool) → Type 0
IsMonotone front = (a b : List ℕ) → slice_cmp nat_cmp a b ≡ Less → front b ≡ true → front a ≡ true

pub every_monotone : IsMonotone every_id
every_monotone a b below t = refl

pub shown_monotone : (after : Option (List ℕ)) → IsMonotone (is_shown after)
shown_monotone None a b below t = t
shown_monotone (Some last) a b below t =
    elim (le_cases (slice_cmp nat_cmp b last) t) [
      | inl less ↦ ap is_le (nat_list_cmp_total.trans a b last below less)
      | inr equal ↦
          -- b and last compare alike with a
          let e : slice_cmp nat_cmp b a ≡ slice_cmp nat_cmp last a = nat_list_cmp_total.congr b last a equal in
          let f : slice_cmp nat_cmp last a ≡ Greater = sym e ∙ turned_back a b below in
          ap is_le (turned last a f)
    ]

-- What stands earlier.

order_within : (a b : Key) → a.holder ≡ b.holder
    → key_order a b ≡ ordering_then (parent_order a.name.parent b.name.parent) (slice_cmp nat_cmp a.name.artifact b.name.artifact)
order_within a b held =
    let tie : nat_cmp a.holder b.holder ≡ Equal = subst (λ h. nat_cmp a.holder h ≡ Equal) held (tied_itself nat_cmp_total a.holder) in
    ap (λ o. ordering_then (ordering_then o (parent_order a.name.parent b.name.parent)) (slice_cmp nat_cmp a.name.artifact b.name.artifact)) tie

stands_earlier : (front : List ℕ → Bool) → IsMonotone front → (a b : Key) (parent : Parent) → a.holder ≡ b.holder → key_order a b ≡ Less
    → before_at (parent_order b.name.parent parent) (front b.name.artifact) ≡ true
    → before_at (parent_order a.name.parent parent) (front a.name.artifact) ≡ true
stands_earlier front mono a b parent held less t =
    let parts = then_less (parent_order a.name.parent b.name.parent) (slice_cmp nat_cmp a.name.artifact b.name.artifact)
    (sym (order_within a b held) ∙ less) in
    elim (before_true (parent_order b.name.parent parent) (front b.name.artifact) t) [
      | inl low ↦ elim parts [
        | inl first ↦ ap (λ o. before_at o (front a.name.artifact)) (parent_order_total.trans a.name.parent b.name.parent parent first low)
        | inr same ↦ ap (λ o. before_at o (front a.name.artifact)) (parent_order_total.congr a.name.parent b.name.parent parent same.0 ∙ low)
      ]
      | inr at ↦ elim parts [
        | inl first ↦
            let is : b.name.parent ≡ parent = same_parent b.name.parent parent at.0 in
            ap (λ o. before_at o (front a.name.artifact)) (subst (λ p. parent_order a.name.parent p ≡ Less) is first)
        | inr same ↦
            ap (λ o. before_at o (front a.name.artifact)) (parent_order_total.congr a.name.parent b.name.parent parent same.0 ∙ at.0)
            ∙ mono a.name.artifact b.name.artifact same.1 at.1
      ]
    ]

pub rising_pair : {X : Type 0} (R : X → X → Ordering) (xs : List X) → IsRising R xs → (i j : ℕ) (d : X) → i < j → j < length xs
    → R (get_or xs i d) (get_or xs j d) ≡ Less
rising_pair R [] h i j d lt within = absurd (omega arith)
rising_pair R (x ∷ xs) h i zero d lt within = absurd (omega arith)
rising_pair R (x ∷ xs) h zero (suc j) d lt within = All-from_recursion (λ y. R x y ≡ Less) xs h.0 j d (omega arith)
rising_pair R (x ∷ xs) h (suc i) (suc j) d lt within = rising_pair R xs h.1 i j d (omega arith) (omega arith)

pub partitioned : (front : List ℕ → Bool) → IsMonotone front → (keys : List Key) (parent : Parent) (places : List ℕ)
    → HaveOneHolder keys places → IsRising (places_order keys) places → IsPartitionedBy (λ place. stands_before front keys parent place) places
partitioned front mono keys parent places held rising i j d le within t =
    elim (cases_lt i j) [
      | inl lt ↦
          let p = get_or places i d in
          let q = get_or places j d in
          let low : i < length places = omega (arith, lt, within) in
          stands_earlier front mono (key_at keys p) (key_at keys q) parent
          (held p q (Contains-get_or places i d low) (Contains-get_or places j d within))
          (rising_pair (places_order keys) places rising i j d lt within) t
      | inr ge ↦
          let same : j ≡ i = omega (arith, le, ge) in
          subst (λ k. stands_before front keys parent (get_or places k d) ≡ true) same t
    ]

-- What a cut leaves.

abbrev pub IsCut : {X : Type 0} → (X → Bool) → List X → ℕ → Type 0
IsCut test xs i = IsPartitionPoint (λ y. test y ≡ true) (λ y. test y ≡ false) xs i

in_front : {X : Type 0} (test : X → Bool) (xs : List X) (i : ℕ) → i ≤ length xs → IsCut test xs i → (y : X)
    → Contains (take i xs) y ↔ (Contains xs y × (test y ≡ true))
in_front test xs i within cut y = (
  λ h.
      let low : h.0 < i = omega (arith, h.1, length-take i xs) in
      let e = sym (get_or-take i xs h.0 y low) ∙ h.2 in
      ((h.0, omega (arith, low, within), e), subst (λ z. test z ≡ true) e (cut.0 h.0 y (omega arith) low)),
  λ h. elim (cases_lt h.0.0 i) [
    | inl low ↦ (h.0.0, omega (arith, low, within, length-take i xs), get_or-take i xs h.0.0 y low ∙ h.0.2)
    | inr ge ↦ absurd (true_or_false (test y) h.1 (subst (λ z. test z ≡ false) h.0.2 (cut.1 h.0.0 y ge h.0.1)))
  ],
)

pub behind : {X : Type 0} (test : X → Bool) (xs : List X) (i : ℕ) → i ≤ length xs → IsCut test xs i → (y : X)
    → Contains (drop i xs) y ↔ (Contains xs y × (test y ≡ false))
behind test xs i within cut y = (
  λ h.
      let high : i + h.0 < length xs = omega (arith, h.1, length-drop i xs) in
      let e = sym (get_or-drop i xs h.0 y) ∙ h.2 in
      ((i + h.0, high, e), subst (λ z. test z ≡ false) e (cut.1 (i + h.0) y (omega arith) high)),
  λ h. elim (cases_lt h.0.0 i) [
    | inl low ↦ absurd (true_or_false (test y) (subst (λ z. test z ≡ true) h.0.2 (cut.0 h.0.0 y (omega arith) low)) h.1)
    | inr ge ↦
        let k = h.0.0 - i in
        let at : i + k ≡ h.0.0 = omega (arith, ge) in
        (k, omega (arith, at, h.0.1, length-drop i xs), get_or-drop i xs k y ∙ ap (λ n. get_or xs n y) at ∙ h.0.2)
  ],
)

recursion_front : {X : Type 0} (P : X → Type 0) (xs ys : List X) → AllByRecursion P (xs ++ ys) → AllByRecursion P xs
recursion_front P [] ys h = tt
recursion_front P (x ∷ xs) ys h = (h.0, recursion_front P xs ys h.1)

rising_front : {X : Type 0} (R : X → X → Ordering) (xs ys : List X) → IsRising R (xs ++ ys) → IsRising R xs
rising_front R [] ys h = tt
rising_front R (x ∷ xs) ys h = (recursion_front (λ y. R x y ≡ Less) xs ys h.0, rising_front R xs ys h.1)

rising_back : {X : Type 0} (R : X → X → Ordering) (xs ys : List X) → IsRising R (xs ++ ys) → IsRising R ys
rising_back R [] ys h = h
rising_back R (x ∷ xs) ys h = rising_back R xs ys h.1

pub rising_take : {X : Type 0} (R : X → X → Ordering) (i : ℕ) (xs : List X) → IsRising R xs → IsRising R (take i xs)
rising_take R i xs h = rising_front R (take i xs) (drop i xs) (subst (IsRising R) (sym (take-append-drop i xs)) h)

pub rising_drop : {X : Type 0} (R : X → X → Ordering) (i : ℕ) (xs : List X) → IsRising R xs → IsRising R (drop i xs)
rising_drop R i xs h = rising_back R (take i xs) (drop i xs) (subst (IsRising R) (sym (take-append-drop i xs)) h)

-- The artifacts of a parent among those of a holder.

pub one_holder : (keys : List Key) (holder : ℕ) (places : List ℕ) → IsKeyIndex keys holder places → HaveOneHolder keys places
one_holder keys holder places index p q a b = ((index.all p).0 a).1 ∙ sym (((index.all q).0 b).1)

taken : {X : Type 0} (i : ℕ) (xs : List X) (y : X) → Contains (take i xs) y → Contains xs y
taken i xs y h =
    let low : h.0 < i = omega (arith, h.1, length-take i xs) in
    (h.0, omega (arith, h.1, length-take i xs), sym (get_or-take i xs h.0 y low) ∙ h.2)

pub one_holder_front : (keys : List Key) (holder : ℕ) (places : List ℕ) (i : ℕ) → IsKeyIndex keys holder places → HaveOneHolder keys (take i places)
one_holder_front keys holder places i index p q a b =
    one_holder keys holder places index p q (taken i places p a) (taken i places q b)

-- what an id that wasn't shown stands behind
pub after_from : (after : Option (List ℕ)) (id : List ℕ) → is_shown after id ≡ false → IsAfter after id
after_from None id e = tt
after_from (Some last) id e = turned id last (not_le (slice_cmp nat_cmp id last) e)

pub not_shown : (after : Option (List ℕ)) (id : List ℕ) → IsAfter after id → is_shown after id ≡ false
not_shown None id h = refl
not_shown (Some last) id h = ap is_le (turned_back last id h)

-- what stands at a place that is up to a parent and not in front of what is still to be shown
listed_from : (rows : List Artifact) (holder : ℕ) (parent : Parent) (after : Option (List ℕ)) (place : ℕ) → place < length (keys_of rows)
    → (key_at (keys_of rows) place).holder ≡ holder → stands_before every_id (keys_of rows) parent place ≡ true
    → stands_before (is_shown after) (keys_of rows) parent place ≡ false → IsListed rows holder parent after place
listed_from rows holder parent after place within held upto front =
    let keys = keys_of rows in
    let key = key_at keys place in
    let both = between (parent_order key.name.parent parent) (is_shown after key.name.artifact) upto front in
    let is : key ≡ named holder (record { parent = parent; artifact = key.name.artifact }) =
    key_same key (named holder (record { parent = parent; artifact = key.name.artifact })) held (same_parent key.name.parent parent both.0) refl in (
      key.name.artifact,
      slice_get-get_or keys place no_key within ∙ ap (λ k. Some k) is,
      after_from after key.name.artifact both.1,
    )

pub listed_key : (rows : List Artifact) (holder : ℕ) (parent : Parent) (after : Option (List ℕ)) (place : ℕ)
    → (listed : IsListed rows holder parent after place) → key_at (keys_of rows) place ≡ named holder (record { parent = parent; artifact = listed.0 })
listed_key rows holder parent after place listed =
    get_or_from_slice_get (keys_of rows) place (named holder (record { parent = parent; artifact = listed.0 })) no_key listed.1

listed_up_to : (rows : List Artifact) (holder : ℕ) (parent : Parent) (after : Option (List ℕ)) (place : ℕ)
    → IsListed rows holder parent after place → stands_before every_id (keys_of rows) parent place ≡ true
listed_up_to rows holder parent after place listed =
    ap (λ (k : Key). before_at (parent_order k.name.parent parent) true) (listed_key rows holder parent after place listed)
    ∙ ap (λ o. before_at o true) (tied_itself parent_order_total parent)

listed_behind : (rows : List Artifact) (holder : ℕ) (parent : Parent) (after : Option (List ℕ)) (place : ℕ)
    → IsListed rows holder parent after place → stands_before (is_shown after) (keys_of rows) parent place ≡ false
listed_behind rows holder parent after place listed =
    ap (λ (k : Key). before_at (parent_order k.name.parent parent) (is_shown after k.name.artifact)) (listed_key rows holder parent after place listed)
    ∙ ap (λ o. before_at o (is_shown after listed.0)) (tied_itself parent_order_total parent)
    ∙ not_shown after listed.0 listed.2

-- keys of one holder and parent are in the order of their ids
ids_rise : (a b : Key) → a.holder ≡ b.holder → a.name.parent ≡ b.name.parent → key_order a b ≡ Less
    → slice_cmp nat_cmp a.name.artifact b.name.artifact ≡ Less
ids_rise a b held same less =
    let tie : parent_order a.name.parent b.name.parent ≡ Equal =
    subst (λ p. parent_order a.name.parent p ≡ Equal) same (tied_itself parent_order_total a.name.parent) in
    sym (ap (λ o. ordering_then o (slice_cmp nat_cmp a.name.artifact b.name.artifact)) tie) ∙ sym (order_within a b held) ∙ less

pub listing_from_cuts : (rows : List Artifact) (holder : ℕ) (parent : Parent) (after : Option (List ℕ)) (places : List ℕ) (to from : ℕ)
    → IsKeyIndex (keys_of rows) holder places → to ≤ length places
    → IsCut (λ place. stands_before every_id (keys_of rows) parent place) places to → from ≤ length (take to places)
    → IsCut (λ place. stands_before (is_shown after) (keys_of rows) parent place) (take to places) from
    → IsListing rows holder parent after (drop from (take to places))
listing_from_cuts rows holder parent after places to from index low upto high front =
    let keys = keys_of rows in
    let all = drop from (take to places) in
    let last : ℕ → Bool = λ place. stands_before every_id keys parent place in
    let first : ℕ → Bool = λ place. stands_before (is_shown after) keys parent place in
    let held : (p : ℕ) → Contains all p → IsListed rows holder parent after p = λ p h.
    let back = (behind first (take to places) from high front p).0 h in
    let there = (in_front last places to low upto p).0 back.0 in
    let own = (index.all p).0 there.0 in
    listed_from rows holder parent after p own.0 own.1 there.1 back.1 in
    record {
      rising = rising_agree (places_order keys) (λ p q. slice_cmp nat_cmp (id_at keys p) (id_at keys q)) all
          (λ p q a b less.
          let f = listed_key rows holder parent after p (held p a) in
          let g = listed_key rows holder parent after q (held q b) in
          ids_rise (key_at keys p) (key_at keys q) (ap (λ (k : Key). k.holder) f ∙ sym (ap (λ (k : Key). k.holder) g))
          (ap (λ (k : Key). k.name.parent) f ∙ sym (ap (λ (k : Key). k.name.parent) g)) less)
          (rising_drop (places_order keys) from (take to places) (rising_take (places_order keys) to places index.rising));
      whole = λ p. (
        held p,
        λ listed.
            let within = slice_get_within keys p (named holder (record { parent = parent; artifact = listed.0 })) listed.1 in
            let own = ap (λ (k : Key). k.holder) (listed_key rows holder parent after p listed) in
            let there = (index.all p).1 (within, own) in
            (behind first (take to places) from high front p).1
            ((in_front last places to low upto p).1 (there, listed_up_to rows holder parent after p listed), listed_behind rows holder parent after p listed),
      );
    }

-- the places of a page are those of rows
pub page_within : (rows : List Artifact) (holder : ℕ) (parent : Parent) (after : Option (List ℕ)) (all : List ℕ) (size : ℕ)
    → IsListing rows holder parent after all → All (λ place. place < length rows) (take size all)
page_within rows holder parent after all size listing k d low =
    let short : k < size = omega (arith, low, length-take size all) in
    let within : k < length all = omega (arith, low, length-take size all) in
    let listed = (listing.whole (get_or all k d)).0 (Contains-get_or all k d within) in
    let there = slice_get_within (keys_of rows) (get_or all k d) (named holder (record { parent = parent; artifact = listed.0 })) listed.1 in
    subst (λ p. p < length rows) (sym (get_or-take size all k d short)) (omega (arith, there, length-map rows key_of))
