-- There is a listing of what is to be shown of a parent, and one alone: place after place is put
-- where its id belongs.
use Rattle.std.proofs.Common.{◌≡◌, ◌⊎◌, ◌↔◌, ◌<◌, ◌≤◌, ◌==◌, ◌&&◌, ℕ, zero, suc, not, Bool, true, false, List, [], ◌∷◌, length, take, get_or, Contains, Option, Some, Ordering, refl, sym, ap, ◌∙◌, subst, inl, inr, arith}
use Rattle.std.specs.Cmp.{IsTotalOrder}
use Rattle.std.specs.Cmp.Lexicographic.{slice_cmp, nat_list_cmp_total}
use Rattle.std.specs.List.{All, AllByRecursion}
use Rattle.std.specs.Ordering.{nat_cmp, ordering_reverse, ordering_then, is_eq}
use Rattle.std.specs.declared.cmp.Ordering.TheVariants.{Less, Equal, Greater}
use Rattle.std.proofs.lemmas.Bool.{and_parts, and_from, cases_Bool, cases_lt, eqb-true, eq-eqb}
use Rattle.std.proofs.lemmas.Cmp.{nat_cmp_total, on_total, then_total, tied_itself}
use Rattle.std.proofs.lemmas.List.{get_or-take, length-map, length-take}
use Rattle.std.proofs.lemmas.List.Elements.{All-from_recursion, Contains-get_or}
use Rattle.std.proofs.lemmas.Option.{slice_get-get_or, slice_get_within}
use Rattle.names_realms.specs.declared.parents.Parent.{Parent}
use Rattle.artifacts.specs.declared.artifact.Artifact.{Artifact}
use Rattle.artifacts.specs.Artifacts.{Key, key_of, keys_of, named}
use Rattle.artifacts.specs.Cuts.{is_shown}
use Rattle.lists.specs.Orders.{IsRising, HasOneMore}
use Rattle.artifacts.specs.Orders.{id_at, key_at, no_key, parent_order}
use Rattle.artifacts.specs.Pages.{IsListed, IsListing}
use Rattle.artifacts.proofs.KeyLemmas.{key_same, parent_order_total, same_parent}
use Rattle.lists.proofs.OrderLemmas.{contains_first, contains_rest, first_or_rest, nat_equal, one_more, rising_agree, then_equal}
use Rattle.artifacts.proofs.PageLemmas.{after_from, not_shown, listed_key}
use Rattle.artifact_pages.specs.declared.queries.ArtifactQuery.{ArtifactQuery}
use Rattle.artifact_pages.specs.Pages.{IsWholeListing, page_order}

-- ---- a value put into a rising list

of_members : {X : Type 0} (P : X → Type 0) (xs : List X) → ((y : X) → Contains xs y → P y) → AllByRecursion P xs
of_members P [] f = tt
of_members P (x ∷ xs) f = (f x (contains_first x xs), of_members P xs (λ y held. f y (contains_rest x y xs held)))

below : {X : Type 0} (R : X → X → Ordering) (x : X) (xs : List X) → AllByRecursion (λ z. R x z ≡ Less) xs → (y : X) → Contains xs y → R x y ≡ Less
below R x xs all y held = subst (λ z. R x z ≡ Less) held.2 (All-from_recursion (λ z. R x z ≡ Less) xs all held.0 y held.1)

cases_of : {X : Type 0} (x y : X) (xs : List X) → Contains (x ∷ xs) y → (x ≡ y) ⊎ Contains xs y
cases_of x y xs held = first_or_rest x y xs held.0 held.1 held.2

one_more_behind : {X : Type 0} (y : X) (ys zs : List X) (x : X) → HasOneMore ys x zs → HasOneMore (y ∷ ys) x (y ∷ zs)
one_more_behind y ys zs x more z = (
  λ h. elim (cases_of y z zs h) [
    | inl e ↦ inl (subst (Contains (y ∷ ys)) e (contains_first y ys))
    | inr rest ↦ elim ((more z).0 rest) [
      | inl old ↦ inl (contains_rest y z ys old)
      | inr e ↦ inr e
    ]
  ],
  λ h. elim h [
    | inl old ↦ elim (cases_of y z ys old) [
      | inl e ↦ subst (Contains (y ∷ zs)) e (contains_first y zs)
      | inr rest ↦ contains_rest y z zs ((more z).1 (inl rest))
    ]
    | inr e ↦ contains_rest y z zs ((more z).1 (inr e))
  ],
)

-- ---- a rising list with these members is one

module _ {X : Type 0} (R : X → X → Ordering) (total : IsTotalOrder R) where
  not_both : (x y : X) → R x y ≡ Less → R y x ≡ Less → ⊥
  not_both x y a b = let no : Less ≡ Greater = sym a ∙ total.antisymm x y ∙ ap (λ r. ordering_reverse r) b in cc

  tails_same : (x : X) (xs ys : List X) → IsRising R (x ∷ xs) → ((z : X) → Contains (x ∷ xs) z → Contains (x ∷ ys) z)
      → (z : X) → Contains xs z → Contains ys z
  tails_same x xs ys rising f z held = elim (cases_of x z ys (f z (contains_rest x z xs held))) [
    | inl same ↦
        let it : R x x ≡ Less = subst (λ w. R x w ≡ Less) (sym same) (below R x xs rising.0 z held) in
        absurd (not_both x x it it)
    | inr rest ↦ rest
  ]

  heads_same : (x y : X) (xs ys : List X) → IsRising R (x ∷ xs) → IsRising R (y ∷ ys)
      → ((z : X) → Contains (x ∷ xs) z ↔ Contains (y ∷ ys) z) → x ≡ y
  heads_same x y xs ys one other same = elim (cases_of y x ys ((same x).0 (contains_first x xs))) [
    | inl e ↦ sym e
    | inr p ↦ elim (cases_of x y xs ((same y).1 (contains_first y ys))) [
      | inl e ↦ e
      | inr q ↦ absurd (not_both x y (below R x xs one.0 y q) (below R y ys other.0 x p))
    ]
  ]

  pub one_rising : (xs ys : List X) → IsRising R xs → IsRising R ys → ((z : X) → Contains xs z ↔ Contains ys z) → xs ≡ ys
  one_rising [] [] one other same = refl
  one_rising [] (y ∷ ys) one other same = let no = (same y).1 (contains_first y ys) in absurd (omega (arith, no.1))
  one_rising (x ∷ xs) [] one other same = let no = (same x).0 (contains_first x xs) in absurd (omega (arith, no.1))
  one_rising (x ∷ xs) (y ∷ ys) one other same =
      let e : x ≡ y = heads_same x y xs ys one other same in
      let other_ : IsRising R (x ∷ ys) = subst (λ w. IsRising R (w ∷ ys)) (sym e) other in
      let same_ : (z : X) → Contains (x ∷ xs) z ↔ Contains (x ∷ ys) z =
      subst (λ w. (z : X) → Contains (x ∷ xs) z ↔ Contains (w ∷ ys) z) (sym e) same in
      let rest = one_rising xs ys one.1 other.1 (λ z. (
        tails_same x xs ys one (λ w. (same_ w).0) z,
        tails_same x ys xs other_ (λ w. (same_ w).1) z,
      )) in
      ap (λ w. w ∷ xs) e ∙ ap (λ zs. y ∷ zs) rest

record HasPut {X : Type 0} (R : X → X → Ordering) (xs : List X) (x : X) : Type 0 where
  list : List X
  rising : IsRising R list
  more : HasOneMore xs x list

module _ {X : Type 0} (R : X → X → Ordering) (total : IsTotalOrder R) where
  in_front : (x y : X) (ys : List X) → IsRising R (y ∷ ys) → R x y ≡ Less → HasPut R (y ∷ ys) x
  in_front x y ys rising less = record {
    list = x ∷ y ∷ ys;
    rising = ((less, of_members (λ z. R x z ≡ Less) ys (λ z held. total.trans x y z less (below R y ys rising.0 z held))), rising);
    more = one_more [] (y ∷ ys) x;
  }

  behind : (x y : X) (ys : List X) → IsRising R (y ∷ ys) → R y x ≡ Less → HasPut R ys x → HasPut R (y ∷ ys) x
  behind x y ys rising less rest = record {
    list = y ∷ rest.list;
    rising = (
      of_members (λ z. R y z ≡ Less) rest.list (λ z held. elim ((rest.more z).0 held) [
        | inl old ↦ below R y ys rising.0 z old
        | inr e ↦ subst (λ w. R y w ≡ Less) (sym e) less
      ]),
      rest.rising,
    );
    more = one_more_behind y ys rest.list x rest.more;
  }

  by_order : (x y : X) (ys : List X) (o : Ordering) → R x y ≡ o → IsRising R (y ∷ ys) → (R x y ≡ Equal → ⊥) → HasPut R ys x → HasPut R (y ∷ ys) x
  by_order x y ys Less e rising apart rest = in_front x y ys rising e
  by_order x y ys Equal e rising apart rest = absurd (apart e)
  by_order x y ys Greater e rising apart rest = behind x y ys rising (total.antisymm y x ∙ ap (λ r. ordering_reverse r) e) rest

  put : (xs : List X) (x : X) → IsRising R xs → ((y : X) → Contains xs y → R x y ≡ Equal → ⊥) → HasPut R xs x
  put [] x rising apart = record { list = x ∷ []; rising = (tt, tt); more = one_more [] [] x }
  put (y ∷ ys) x rising apart =
      by_order x y ys (R x y) refl rising (apart y (contains_first y ys))
      (put ys x rising.1 (λ z held. apart z (contains_rest y z ys held)))

-- ---- which places are listed

page_order_total : (rows : List Artifact) → IsTotalOrder (page_order rows)
page_order_total rows = then_total (on_total (λ (p : ℕ). id_at (keys_of rows) p) nat_list_cmp_total) nat_cmp_total

-- places that are the same in the order are one place
apart : (rows : List Artifact) (p q : ℕ) → page_order rows p q ≡ Equal → p ≡ q
apart rows p q e =
    nat_equal p q (then_equal (slice_cmp nat_cmp (id_at (keys_of rows) p) (id_at (keys_of rows) q)) (nat_cmp p q) e).1

module _ (rows : List Artifact) (holder : ℕ) (parent : Parent) (after : Option (List ℕ)) where
  abbrev is_due : ℕ → Bool
  is_due place =
      ((key_at (keys_of rows) place).holder == holder)
      && (is_eq (parent_order (key_at (keys_of rows) place).name.parent parent) && not (is_shown after (key_at (keys_of rows) place).name.artifact))

  is_equal : (o : Ordering) → is_eq o ≡ true → o ≡ Equal
  is_equal Less e = cc
  is_equal Equal e = refl
  is_equal Greater e = cc

  not_true : (b : Bool) → not b ≡ true → b ≡ false
  not_true true e = cc
  not_true false e = refl

  due_listed : (place : ℕ) → place < length (keys_of rows) → is_due place ≡ true → IsListed rows holder parent after place
  due_listed place within due =
      let keys : List Key = keys_of rows in
      let key : Key = key_at keys place in
      let first = and_parts (key.holder == holder) _ due in
      let second = and_parts (is_eq (parent_order key.name.parent parent)) (not (is_shown after key.name.artifact)) first.1 in
      let whole : Key = named holder (record { parent = parent; artifact = key.name.artifact }) in
      let is : key ≡ whole =
      key_same key whole (eqb-true key.holder holder first.0) (same_parent key.name.parent parent (is_equal (parent_order key.name.parent parent) second.0)) refl in (
        key.name.artifact,
        slice_get-get_or keys place no_key within ∙ ap (λ (k : Key). Some k) is,
        after_from after key.name.artifact (not_true (is_shown after key.name.artifact) second.1),
      )

  listed_due : (place : ℕ) → IsListed rows holder parent after place → is_due place ≡ true
  listed_due place listed =
      let is = listed_key rows holder parent after place listed in
      let same : is_eq (parent_order parent parent) ≡ true = ap is_eq (tied_itself parent_order_total parent) in
      let unseen : not (is_shown after listed.0) ≡ true = ap not (not_shown after listed.0 listed.2) in
      ap (λ (k : Key). (k.holder == holder) && (is_eq (parent_order k.name.parent parent) && not (is_shown after k.name.artifact))) is
      ∙ and_from (holder == holder) _ (eq-eqb holder holder refl) (and_from (is_eq (parent_order parent parent)) (not (is_shown after listed.0)) same unseen)

  abbrev by_page : ℕ → ℕ → Ordering
  by_page p q = page_order rows p q

  record ListsBelow (n : ℕ) : Type 0 where
    places : List ℕ
    rising : IsRising by_page places
    whole : (place : ℕ) → Contains places place ↔ ((place < n) × IsListed rows holder parent after place)

  none_below : ListsBelow 0
  none_below = record {
    places = [];
    rising = tt;
    whole = λ place. (λ held. absurd (let lt = held.1 in omega (arith, lt)), λ h. absurd (let lt = h.0 in omega (arith, lt)));
  }

  last_or_below : (place m : ℕ) → place < suc m → (place ≡ m) ⊎ (place < m)
  last_or_below place m lt = elim (cases_lt place m) [
    | inl below ↦ inr below
    | inr top ↦ inl (omega arith)
  ]

  with_it : (n : ℕ) → IsListed rows holder parent after n → ListsBelow n → ListsBelow (suc n)
  with_it n listed old =
      let total : IsTotalOrder by_page = page_order_total rows in
      let has = put by_page total old.places n old.rising
      (λ y held e.
      let there = (old.whole y).0 held in
      let same : n ≡ y = apart rows n y e in
      let lt : y < n = there.0 in
      omega (arith, same, lt)) in
      record {
        places = has.list;
        rising = has.rising;
        whole = λ place. (
          λ held. elim ((has.more place).0 held) [
            | inl before ↦ let there = (old.whole place).0 before in let lt : place < n = there.0 in (omega (arith, lt), there.1)
            | inr e ↦ (omega (arith, e), subst (IsListed rows holder parent after) (sym e) listed)
          ],
          λ h. elim (last_or_below place n h.0) [
            | inl e ↦ (has.more place).1 (inr e)
            | inr lt ↦ (has.more place).1 (inl ((old.whole place).1 (lt, h.1)))
          ],
        );
      }

  without_it : (n : ℕ) → (IsListed rows holder parent after n → ⊥) → ListsBelow n → ListsBelow (suc n)
  without_it n unlisted old = record {
    places = old.places;
    rising = old.rising;
    whole = λ place. (
      λ held. let there = (old.whole place).0 held in let lt : place < n = there.0 in (omega (arith, lt), there.1),
      λ h. elim (cases_lt place n) [
        | inl lt ↦ (old.whole place).1 (lt, h.1)
        | inr top ↦ absurd (unlisted (subst (IsListed rows holder parent after) (let lt = h.0 in let e : place ≡ n = omega (arith, top, lt) in e) h.1))
      ],
    );
  }

  next_below : (n : ℕ) → n < length (keys_of rows) → ListsBelow n → ListsBelow (suc n)
  next_below n within old = elim (cases_Bool (is_due n)) [
    | inl due ↦ with_it n (due_listed n within due) old
    | inr other ↦ without_it n (λ listed. let yes = listed_due n listed in let no : true ≡ false = sym yes ∙ other in cc) old
  ]

  all_below : (n : ℕ) → n ≤ length (keys_of rows) → ListsBelow n
  all_below zero within = none_below
  all_below (suc n) within = next_below n (omega arith) (all_below n (omega arith))

pub a_listing : (rows : List Artifact) (asked : ArtifactQuery) → (places : List ℕ) × IsWholeListing rows asked places
a_listing rows asked =
    let whole = all_below rows asked.holder asked.parent asked.after (length (keys_of rows)) (omega arith) in (
      whole.places,
      record {
        rising = whole.rising;
        whole = λ place. (
          λ held. ((whole.whole place).0 held).1,
          λ listed.
              let key : Key = named asked.holder (record { parent = asked.parent; artifact = listed.0 }) in
              let within = slice_get_within (keys_of rows) place key listed.1 in
              (whole.whole place).1 (within, listed),
        );
      },
    )

pub one_listing : (rows : List Artifact) (asked : ArtifactQuery) (places others : List ℕ) → IsWholeListing rows asked places
    → IsWholeListing rows asked others → places ≡ others
one_listing rows asked places others one other =
    one_rising (page_order rows) (page_order_total rows) places others one.rising other.rising
    (λ p. (λ c. (other.whole p).1 ((one.whole p).0 c), λ c. (one.whole p).1 ((other.whole p).0 c)))

less_then : (o p : Ordering) → o ≡ Less → ordering_then o p ≡ Less
less_then o p e = ap (λ r. ordering_then r p) e

-- a listing of a table, whose ids all differ, is one of these
pub listing_from : (rows : List Artifact) (asked : ArtifactQuery) (places : List ℕ)
    → IsListing rows asked.holder asked.parent asked.after places → IsWholeListing rows asked places
listing_from rows asked places listing = record {
  rising = rising_agree (λ p q. slice_cmp nat_cmp (id_at (keys_of rows) p) (id_at (keys_of rows) q)) (page_order rows) places
      (λ a b h k e. less_then (slice_cmp nat_cmp (id_at (keys_of rows) a) (id_at (keys_of rows) b)) (nat_cmp a b) e) listing.rising;
  whole = listing.whole;
}

-- the places of a page are those of rows
pub places_within : (rows : List Artifact) (asked : ArtifactQuery) (all : List ℕ) (size : ℕ) → IsWholeListing rows asked all
    → All (λ place. place < length rows) (take size all)
places_within rows asked all size listing k d low =
    let short : k < size = omega (arith, low, length-take size all) in
    let within : k < length all = omega (arith, low, length-take size all) in
    let listed = (listing.whole (get_or all k d)).0 (Contains-get_or all k d within) in
    let key : Key = named asked.holder (record { parent = asked.parent; artifact = listed.0 }) in
    let there = slice_get_within (keys_of rows) (get_or all k d) key listed.1 in
    subst (λ p. p < length rows) (sym (get_or-take size all k d short)) (omega (arith, there, length-map rows key_of))
