-- What stands in lists, and lists that rise.
use Rattle.std.proofs.Common.{◌≡◌, ◌⊎◌, ◌<◌, ◌≤◌, ℕ, zero, suc, Bool, true, false, cond, List, [], ◌∷◌, ◌++◌, length, map, get_or, Contains, Option, Some, None, Ordering, refl, sym, ap, ◌∙◌, subst, inl, inr, arith}
use Rattle.std.specs.Cmp.{IsTotalOrder}
use Rattle.std.specs.List.{AllByRecursion, filter, filter_map, flat_map, IsDistinct, cons_option}
use Rattle.std.specs.List.Sorted.{IsSorted, IsSortedByClosure}
use Rattle.std.specs.Fn.{Called}
use denote.Param.Members.{Mut}
use denote.Ref.{Bor}
use Rattle.std.proofs.lemmas.Fn.{always_returns_same}
use Rattle.std.specs.Ordering.{is_lt, is_eq, ordering_reverse}
use Rattle.std.specs.declared.cmp.Ordering.TheVariants.{Less, Equal, Greater}
use Rattle.std.proofs.lemmas.Bool.{cases_Bool, true≢false}
use Rattle.std.proofs.lemmas.Cmp.{tied_itself}
use Rattle.std.proofs.lemmas.List.Sorted.{ranks_by, sorted_far}
use Rattle.std.proofs.lemmas.Map.Keys.{IsDistinct-cons, IsDistinct-head, IsDistinct-tail}
use Rattle.lists.specs.Orders.{IsRising}

-- a value stands in a list
abbrev pub In : {X : Type 0} → X → List X → Type 0
In y [] = ⊥
In y (x ∷ xs) = (x ≡ y) ⊎ In y xs

in_at : {X : Type 0} (xs : List X) (y : X) (k : ℕ) → k < length xs → get_or xs k y ≡ y → In y xs
in_at [] y k within e = absurd (omega arith)
in_at (x ∷ xs) y zero within e = inl e
in_at (x ∷ xs) y (suc k) within e = inr (in_at xs y k (omega arith) e)

pub in_from : {X : Type 0} (xs : List X) (y : X) → Contains xs y → In y xs
in_from xs y h = in_at xs y h.0 h.1 h.2

pub contains_from : {X : Type 0} (xs : List X) (y : X) → In y xs → Contains xs y
contains_from [] y h = absurd h
contains_from (x ∷ xs) y (inl e) = (zero, omega arith, e)
contains_from (x ∷ xs) y (inr h) = let c = contains_from xs y h in (suc c.0, omega (arith, c.1), c.2)

pub every_at : {X : Type 0} (P : X → Type 0) (xs : List X) → AllByRecursion P xs → (y : X) → In y xs → P y
every_at P [] h y i = absurd i
every_at P (x ∷ xs) h y (inl e) = subst P e h.0
every_at P (x ∷ xs) h y (inr i) = every_at P xs h.1 y i

pub every_from : {X : Type 0} (P : X → Type 0) (xs : List X) → ((y : X) → In y xs → P y) → AllByRecursion P xs
every_from P [] f = tt
every_from P (x ∷ xs) f = (f x (inl refl), every_from P xs (λ y i. f y (inr i)))

pub in_left : {X : Type 0} (xs ys : List X) (y : X) → In y xs → In y (xs ++ ys)
in_left [] ys y h = absurd h
in_left (x ∷ xs) ys y (inl e) = inl e
in_left (x ∷ xs) ys y (inr h) = inr (in_left xs ys y h)

pub in_right : {X : Type 0} (xs ys : List X) (y : X) → In y ys → In y (xs ++ ys)
in_right [] ys y h = h
in_right (x ∷ xs) ys y h = inr (in_right xs ys y h)

pub in_either : {X : Type 0} (xs ys : List X) (y : X) → In y (xs ++ ys) → In y xs ⊎ In y ys
in_either [] ys y h = inr h
in_either (x ∷ xs) ys y (inl e) = inl (inl e)
in_either (x ∷ xs) ys y (inr h) = elim (in_either xs ys y h) [ inl l ↦ inl (inr l) | inr r ↦ inr r ]

pub in_map : {X Y : Type 0} (f : X → Y) (xs : List X) (x : X) → In x xs → In (f x) (map f xs)
in_map f [] x h = absurd h
in_map f (a ∷ xs) x (inl e) = inl (ap f e)
in_map f (a ∷ xs) x (inr h) = inr (in_map f xs x h)

pub from_map : {X Y : Type 0} (f : X → Y) (xs : List X) (y : Y) → In y (map f xs) → (x : X) × In x xs × (f x ≡ y)
from_map f [] y h = absurd h
from_map f (a ∷ xs) y (inl e) = (a, inl refl, e)
from_map f (a ∷ xs) y (inr h) = let r = from_map f xs y h in (r.0, inr r.1, r.2)

pub in_flat : {X Y : Type 0} (f : X → List Y) (xs : List X) (x : X) (y : Y) → In x xs → In y (f x) → In y (flat_map f xs)
in_flat f [] x y h i = absurd h
in_flat f (a ∷ xs) x y (inl e) i = in_left (f a) (flat_map f xs) y (subst (λ z. In y (f z)) (sym e) i)
in_flat f (a ∷ xs) x y (inr h) i = in_right (f a) (flat_map f xs) y (in_flat f xs x y h i)

pub from_flat : {X Y : Type 0} (f : X → List Y) (xs : List X) (y : Y) → In y (flat_map f xs) → (x : X) × In x xs × In y (f x)
from_flat f [] y h = absurd h
from_flat f (a ∷ xs) y h = elim (in_either (f a) (flat_map f xs) y h) [
  | inl l ↦ (a, inl refl, l)
  | inr r ↦ let s = from_flat f xs y r in (s.0, inr s.1, s.2)
]

-- a filter, by whether its test passes the first value
pub filter_yes : {X : Type 0} (p : X → Bool) (x : X) (xs : List X) → p x ≡ true → filter p (x ∷ xs) ≡ x ∷ filter p xs
filter_yes p x xs e = ap (λ b. cond b (x ∷ filter p xs) (filter p xs)) e

pub filter_no : {X : Type 0} (p : X → Bool) (x : X) (xs : List X) → p x ≡ false → filter p (x ∷ xs) ≡ filter p xs
filter_no p x xs e = ap (λ b. cond b (x ∷ filter p xs) (filter p xs)) e

pub filter_none : {X : Type 0} (p : X → Bool) (xs : List X) → ((y : X) → In y xs → p y ≡ false) → filter p xs ≡ []
filter_none p [] f = refl
filter_none p (x ∷ xs) f = filter_no p x xs (f x (inl refl)) ∙ filter_none p xs (λ y i. f y (inr i))

pub in_filter : {X : Type 0} (p : X → Bool) (xs : List X) (y : X) → In y xs → p y ≡ true → In y (filter p xs)
in_filter p [] y h e = absurd h
in_filter p (x ∷ xs) y (inl s) e =
    subst (In y) (sym (filter_yes p x xs (ap p s ∙ e))) (inl s)
in_filter p (x ∷ xs) y (inr h) e = elim (cases_Bool (p x)) [
  | inl t ↦ subst (In y) (sym (filter_yes p x xs t)) (inr (in_filter p xs y h e))
  | inr f ↦ subst (In y) (sym (filter_no p x xs f)) (in_filter p xs y h e)
]

pub from_filter : {X : Type 0} (p : X → Bool) (xs : List X) (y : X) → In y (filter p xs) → In y xs × (p y ≡ true)
from_filter p [] y h = absurd h
from_filter p (x ∷ xs) y h = elim (cases_Bool (p x)) [
  | inl t ↦ elim (subst (In y) (filter_yes p x xs t) h) [
    | inl s ↦ (inl s, sym (ap p s) ∙ t)
    | inr r ↦ let s = from_filter p xs y r in (inr s.0, s.1)
  ]
  | inr f ↦ let s = from_filter p xs y (subst (In y) (filter_no p x xs f) h) in (inr s.0, s.1)
]

behind_option : {Y : Type 0} (o : Option Y) (ys : List Y) (y : Y) → In y ys → In y (cons_option o ys)
behind_option None ys y i = i
behind_option (Some z) ys y i = inr i

pub in_picked : {X Y : Type 0} (f : X → Option Y) (xs : List X) (x : X) (y : Y) → In x xs → f x ≡ Some y → In y (filter_map f xs)
in_picked f [] x y h e = absurd h
in_picked f (a ∷ xs) x y (inl s) e =
    subst (λ o. In y (cons_option o (filter_map f xs))) (sym (ap f s ∙ e)) (inl refl)
in_picked f (a ∷ xs) x y (inr h) e = behind_option (f a) (filter_map f xs) y (in_picked f xs x y h e)

picked_cases : {X Y : Type 0} (f : X → Option Y) (a : X) (xs : List X) (y : Y) (o : Option Y) → f a ≡ o
    → (In y (filter_map f xs) → (x : X) × In x xs × (f x ≡ Some y)) → In y (cons_option o (filter_map f xs)) → (x : X) × In x (a ∷ xs) × (f x ≡ Some y)
picked_cases f a xs y None e rest i = let r = rest i in (r.0, inr r.1, r.2)
picked_cases f a xs y (Some z) e rest (inl s) = (a, inl refl, e ∙ ap Some s)
picked_cases f a xs y (Some z) e rest (inr i) = let r = rest i in (r.0, inr r.1, r.2)

pub from_picked : {X Y : Type 0} (f : X → Option Y) (xs : List X) (y : Y) → In y (filter_map f xs) → (x : X) × In x xs × (f x ≡ Some y)
from_picked f [] y h = absurd h
from_picked f (a ∷ xs) y h = picked_cases f a xs y (f a) refl (from_picked f xs y) h

-- lists that rise
pub not_equal : (o : Ordering) → o ≡ Less → o ≡ Equal → ⊥
not_equal o a b = let never : Less ≡ Equal = sym a ∙ b in cc

pub not_greater : (o : Ordering) → o ≡ Less → o ≡ Greater → ⊥
not_greater o a b = let never : Less ≡ Greater = sym a ∙ b in cc

pub rising_append : {X : Type 0} (R : X → X → Ordering) (xs ys : List X) → IsRising R xs → IsRising R ys
    → ((x y : X) → In x xs → In y ys → R x y ≡ Less) → IsRising R (xs ++ ys)
rising_append R [] ys h k f = k
rising_append R (x ∷ xs) ys h k f = (
  every_from (λ y. R x y ≡ Less) (xs ++ ys) (λ y i. elim (in_either xs ys y i) [
    | inl l ↦ every_at (λ z. R x z ≡ Less) xs h.0 y l
    | inr r ↦ f x y (inl refl) r
  ]),
  rising_append R xs ys h.1 k (λ a b i j. f a b (inr i) j),
)

pub rising_left : {X : Type 0} (R : X → X → Ordering) (xs ys : List X) → IsRising R (xs ++ ys) → IsRising R xs
rising_left R [] ys h = tt
rising_left R (x ∷ xs) ys h =
    (every_from (λ y. R x y ≡ Less) xs (λ y i. every_at (λ z. R x z ≡ Less) (xs ++ ys) h.0 y (in_left xs ys y i)), rising_left R xs ys h.1)

pub rising_right : {X : Type 0} (R : X → X → Ordering) (xs ys : List X) → IsRising R (xs ++ ys) → IsRising R ys
rising_right R [] ys h = h
rising_right R (x ∷ xs) ys h = rising_right R xs ys h.1

pub rising_filter : {X : Type 0} (R : X → X → Ordering) (p : X → Bool) (xs : List X) → IsRising R xs → IsRising R (filter p xs)
rising_filter R p [] h = tt
rising_filter R p (x ∷ xs) h = elim (cases_Bool (p x)) [
  | inl t ↦ subst (IsRising R) (sym (filter_yes p x xs t))
      (every_from (λ y. R x y ≡ Less) (filter p xs) (λ y i. every_at (λ z. R x z ≡ Less) xs h.0 y (from_filter p xs y i).0), rising_filter R p xs h.1)
  | inr f ↦ subst (IsRising R) (sym (filter_no p x xs f)) (rising_filter R p xs h.1)
]

picked_rises : {X Y : Type 0} (R : X → X → Ordering) (S : Y → Y → Ordering) (f : X → Option Y) (x : X) (xs : List X)
    → ((a b : X) (p q : Y) → In a (x ∷ xs) → In b (x ∷ xs) → f a ≡ Some p → f b ≡ Some q → R a b ≡ Less → S p q ≡ Less) → IsRising R (x ∷ xs)
    → (o : Option Y) → f x ≡ o → IsRising S (filter_map f xs) → IsRising S (cons_option o (filter_map f xs))
picked_rises R S f x xs g h None e rest = rest
picked_rises R S f x xs g h (Some p) e rest = (
  every_from (λ q. S p q ≡ Less) (filter_map f xs) (λ q i.
      let s = from_picked f xs q i in
      g x s.0 p q (inl refl) (inr s.1) e s.2 (every_at (λ z. R x z ≡ Less) xs h.0 s.0 s.1)),
  rest,
)

pub rising_picked : {X Y : Type 0} (R : X → X → Ordering) (S : Y → Y → Ordering) (f : X → Option Y) (xs : List X)
    → ((a b : X) (p q : Y) → In a xs → In b xs → f a ≡ Some p → f b ≡ Some q → R a b ≡ Less → S p q ≡ Less) → IsRising R xs → IsRising S (filter_map f xs)
rising_picked R S f [] g h = tt
rising_picked R S f (x ∷ xs) g h = picked_rises R S f x xs g h (f x) refl (rising_picked R S f xs (λ a b p q i j. g a b p q (inr i) (inr j)) h.1)

pub rising_map : {X Y : Type 0} (R : X → X → Ordering) (S : Y → Y → Ordering) (f : X → Y) (xs : List X)
    → ((a b : X) → In a xs → In b xs → R a b ≡ Less → S (f a) (f b) ≡ Less) → IsRising R xs → IsRising S (map f xs)
rising_map R S f [] g h = tt
rising_map R S f (x ∷ xs) g h = (
  every_from (λ y. S (f x) y ≡ Less) (map f xs) (λ y i.
      let s = from_map f xs y i in
      subst (λ z. S (f x) z ≡ Less) s.2 (g x s.0 (inl refl) (inr s.1) (every_at (λ z. R x z ≡ Less) xs h.0 s.0 s.1))),
  rising_map R S f xs (λ a b i j. g a b (inr i) (inr j)) h.1,
)

pub rising_flat : {X Y : Type 0} (R : X → X → Ordering) (S : Y → Y → Ordering) (f : X → List Y) (xs : List X)
    → ((a : X) → In a xs → IsRising S (f a))
    → ((a b : X) (p q : Y) → In a xs → In b xs → R a b ≡ Less → In p (f a) → In q (f b) → S p q ≡ Less) → IsRising R xs → IsRising S (flat_map f xs)
rising_flat R S f [] own g h = tt
rising_flat R S f (x ∷ xs) own g h =
    rising_append S (f x) (flat_map f xs) (own x (inl refl)) (rising_flat R S f xs (λ a i. own a (inr i)) (λ a b p q i j. g a b p q (inr i) (inr j)) h.1)
    (λ p q i j. let s = from_flat f xs q j in g x s.0 p q (inl refl) (inr s.1) (every_at (λ z. R x z ≡ Less) xs h.0 s.0 s.1) i s.2)

-- two lists that rise and have the same values are one
only_head : {X : Type 0} {R : X → X → Ordering} → IsTotalOrder R → (x y : X) (xs ys : List X) → IsRising R (x ∷ xs) → IsRising R (y ∷ ys)
    → In x (y ∷ ys) → In y (x ∷ xs) → x ≡ y
only_head o x y xs ys h k (inl e) j = sym e
only_head o x y xs ys h k (inr i) (inl e) = e
only_head {X} {R} o x y xs ys h k (inr i) (inr j) =
    let less : R x y ≡ Less = every_at (λ z. R x z ≡ Less) xs h.0 y j in
    let back : R y x ≡ Less = every_at (λ z. R y z ≡ Less) ys k.0 x i in
    absurd (not_greater (R x y) less (o.antisymm x y ∙ ap ordering_reverse back))

later : {X : Type 0} {R : X → X → Ordering} → IsTotalOrder R → (x y : X) (xs ys : List X) → IsRising R (x ∷ xs)
    → x ≡ y → (z : X) → In z xs → In z (y ∷ ys) → In z ys
later {X} {R} o x y xs ys h e z i (inl s) =
    absurd (not_equal (R x z) (every_at (λ w. R x w ≡ Less) xs h.0 z i) (ap (R x) (sym (e ∙ s)) ∙ tied_itself o x))
later o x y xs ys h e z i (inr j) = j

pub rising_unique : {X : Type 0} {R : X → X → Ordering} → IsTotalOrder R → (xs ys : List X) → IsRising R xs → IsRising R ys
    → ((z : X) → In z xs → In z ys) → ((z : X) → In z ys → In z xs) → xs ≡ ys
rising_unique o [] [] h k f g = refl
rising_unique o [] (y ∷ ys) h k f g = absurd (g y (inl refl))
rising_unique o (x ∷ xs) [] h k f g = absurd (f x (inl refl))
rising_unique {X} {R} o (x ∷ xs) (y ∷ ys) h k f g =
    let e : x ≡ y = only_head o x y xs ys h k (f x (inl refl)) (g y (inl refl)) in
    let rest : xs ≡ ys = rising_unique o xs ys h.1 k.1
    (λ z i. later o x y xs ys h e z i (f z (inr i)))
    (λ z i. later o y x ys xs k (sym e) z i (g z (inr i))) in
    ap (λ z. z ∷ xs) e ∙ ap (λ zs. y ∷ zs) rest

-- what a sort leaves rises, where no two values are the same
abbrev Far : {X : Type 0} → (X → X → Ordering) → List X → Type 0
Far {X} R xs = (i j : ℕ) (d : X) → i ≤ j → j < length xs → is_lt (R (get_or xs j d) (get_or xs i d)) ≡ false

less_from : (o : Ordering) → is_lt (ordering_reverse o) ≡ false → is_eq o ≡ false → o ≡ Less
less_from Less a b = refl
less_from Equal a b = absurd (true≢false b)
less_from Greater a b = absurd (true≢false a)

far_at : {X : Type 0} (R : X → X → Ordering) (x : X) (xs : List X) → Far R (x ∷ xs) → (y : X) → Contains xs y → is_lt (R y x) ≡ false
far_at {X} R x xs far y held =
    subst (λ z. is_lt (R z x) ≡ false) held.2 (far zero (suc held.0) y (omega arith) (omega (arith, held.1)))

rising_far : {X : Type 0} {R : X → X → Ordering} → IsTotalOrder R → (E : X → X → Bool) → ((x y : X) → E x y ≡ false → is_eq (R x y) ≡ false)
    → (xs : List X) → Far R xs → IsDistinct E xs → IsRising R xs
rising_far o E other [] far apart = tt
rising_far {X} {R} o E other (x ∷ xs) far apart = (
  every_from (λ y. R x y ≡ Less) xs (λ y i. less_from (R x y)
      (sym (ap is_lt (o.antisymm y x)) ∙ far_at R x xs far y (contains_from xs y i))
      (other x y (every_at (λ z. E x z ≡ false) xs (IsDistinct-head E x xs apart) y i))),
  rising_far o E other xs (λ i j d le lt. far (suc i) (suc j) d (omega arith) (omega arith)) (IsDistinct-tail E x xs apart),
)

pub rising_sorted : {X : Type 0} {R : X → X → Ordering} → IsTotalOrder R → (E : X → X → Bool) → ((x y : X) → E x y ≡ false → is_eq (R x y) ≡ false)
    → (xs : List X) → IsSorted R xs → IsDistinct E xs → IsRising R xs
rising_sorted {X} {R} o E other xs up apart =
    rising_far o E other xs (λ i j d le lt. sorted_far (λ a b. is_lt (R a b)) (ranks_by o (λ x. x)) xs up i j d le lt) apart

is_eq_less : (o : Ordering) → o ≡ Less → is_eq o ≡ false
is_eq_less o e = ap is_eq e

distinct_none : {X : Type 0} (R : X → X → Ordering) → IsDistinct (λ a b. is_eq (R a b)) []
unfolding IsDistinct
distinct_none R = tt

pub distinct_rising : {X : Type 0} (R : X → X → Ordering) (xs : List X) → IsRising R xs → IsDistinct (λ a b. is_eq (R a b)) xs
distinct_rising R [] h = distinct_none R
distinct_rising R (x ∷ xs) h =
    IsDistinct-cons (λ a b. is_eq (R a b)) x xs
    (every_from (λ y. is_eq (R x y) ≡ false) xs (λ y i. is_eq_less (R x y) (every_at (λ z. R x z ≡ Less) xs h.0 y i)))
    (distinct_rising R xs h.1)

-- what a sort leaves is in order, where each call of its closure compares by that order
pub sorted_by : {X F : Type 0} {R : X → X → Ordering} → IsTotalOrder R → {g : Mut F (Bor X × (Bor X × Unit {0})) Ordering} {f : F} (xs : List X)
    → IsSortedByClosure g f xs
    → ((a : Bor X × (Bor X × Unit {0})) (r : Ordering) (f' : F) → Called g f a r f' → (r ≡ R a.0.now a.1.0.now) × (f' ≡ f)) → IsSorted R xs
sorted_by {X} {F} {R} o {g} {f} xs up h =
    up (λ x y. is_lt (R x y)) (ranks_by o (λ x. x))
    (always_returns_same g (λ a r. is_lt r ≡ is_lt (R a.0.now a.1.0.now)) f (λ a r f' k. (ap is_lt (h a r f' k).0, (h a r f' k).1)))
