-- Entries of one test and variant, in entries that rise.
use Rattle.std.proofs.Common.{◌≡◌, ◌⊎◌, ◌<◌, ◌+◌, suc, Some, None, Bool, true, false, cond, List, [], ◌∷◌, ◌++◌, take, drop, Contains, Ordering, refl, sym, ap, ◌∙◌, subst, inl, inr, arith, append_assoc}
use Rattle.std.specs.Cmp.{IsTotalOrder}
use Rattle.std.specs.List.{AllByRecursion, filter, flat_map, prefix_len, slice_get}
use Rattle.std.specs.Ordering.{ordering_reverse, is_eq}
use Rattle.std.specs.declared.cmp.Ordering.TheVariants.{Less, Equal, Greater}
use Rattle.std.proofs.lemmas.Bool.{cases_Bool}
use Rattle.std.proofs.lemmas.Cmp.{on_total, tied_itself}
use Rattle.std.proofs.lemmas.List.{append-nil, take-append-drop}
use Rattle.std.proofs.lemmas.List.Elements.{filter-append}
use Rattle.lists.proofs.OrderLemmas.{then_equal}
use Rattle.verdict_lists.specs.declared.entries.Entry.{Entry}
use Rattle.verdict_lists.specs.declared.verdict.Verdict.{Verdict}
use Rattle.verdict_lists.specs.World.{World}
use Rattle.lists.specs.Orders.{IsRising}
use Rattle.verdict_lists.specs.Orders.{group_order, own_order, key_order}
use Rattle.verdict_lists.specs.Entries.{entry_key, entry_order, number_order}
use Rattle.verdict_lists.specs.Groups.{IsCut, group_of_entries, is_same, made_of, verdict_at}
use Rattle.verdict_lists.proofs.ListLemmas.{In, in_from, contains_from, every_from, every_at, in_left, in_right, in_either, filter_none, from_filter, in_filter, filter_yes, rising_append, rising_right}
use Rattle.verdict_lists.proofs.OrderLemmas.{equal_from, group_order_total, then_less}

pub group_total : (world : World) → IsTotalOrder (group_of_entries world)
group_total world = on_total (entry_key world) group_order_total

-- an entry that comes before another is of its group, or of one before
pub group_upto : (world : World) (a b : Entry) → entry_order world a b ≡ Less
    → (group_of_entries world a b ≡ Less) ⊎ (group_of_entries world a b ≡ Equal)
group_upto world a b e =
    let k = entry_key world a in
    let l = entry_key world b in
    elim (then_less (key_order k l) (number_order a b) e) [
      | inl less ↦ then_less (group_order k l) (own_order k l) less
      | inr equal ↦ inr (then_equal (group_order k l) (own_order k l) equal).0
    ]

-- the values in front that pass a test, where none passes it behind the first that doesn't
len_yes : {X : Type 0} (p : X → Bool) (x : X) (xs : List X) → p x ≡ true → prefix_len p (x ∷ xs) ≡ suc (prefix_len p xs)
len_yes p x xs e =
    let plus : 1 + prefix_len p xs ≡ suc (prefix_len p xs) = omega arith in
    ap (λ b. cond b (1 + prefix_len p xs) 0) e ∙ plus

len_no : {X : Type 0} (p : X → Bool) (x : X) (xs : List X) → p x ≡ false → prefix_len p (x ∷ xs) ≡ 0
len_no p x xs e = ap (λ b. cond b (1 + prefix_len p xs) 0) e

front_yes : {X : Type 0} (p : X → Bool) (x : X) (xs : List X) → p x ≡ true → take (prefix_len p (x ∷ xs)) (x ∷ xs) ≡ x ∷ take (prefix_len p xs) xs
front_yes p x xs e = ap (λ n. take n (x ∷ xs)) (len_yes p x xs e)

front_no : {X : Type 0} (p : X → Bool) (x : X) (xs : List X) → p x ≡ false → take (prefix_len p (x ∷ xs)) (x ∷ xs) ≡ []
front_no p x xs e = ap (λ n. take n (x ∷ xs)) (len_no p x xs e)

back_yes : {X : Type 0} (p : X → Bool) (x : X) (xs : List X) → p x ≡ true → drop (prefix_len p (x ∷ xs)) (x ∷ xs) ≡ drop (prefix_len p xs) xs
back_yes p x xs e = ap (λ n. drop n (x ∷ xs)) (len_yes p x xs e)

back_no : {X : Type 0} (p : X → Bool) (x : X) (xs : List X) → p x ≡ false → drop (prefix_len p (x ∷ xs)) (x ∷ xs) ≡ x ∷ xs
back_no p x xs e = ap (λ n. drop n (x ∷ xs)) (len_no p x xs e)

-- Entries that rise, of which none is of a group before that of one entry.
abbrev Upto : World → Entry → List Entry → Type 0
Upto world x ys = (y : Entry) → In y ys → (group_of_entries world x y ≡ Less) ⊎ (group_of_entries world x y ≡ Equal)

same_not_less : (world : World) (x y : Entry) → is_same world x y ≡ false → (group_of_entries world x y ≡ Less) ⊎ (group_of_entries world x y ≡ Equal)
    → group_of_entries world x y ≡ Less
same_not_less world x y apart_ (inl less) = less
same_not_less world x y apart_ (inr equal) = let e : true ≡ false = sym (ap is_eq equal) ∙ apart_ in cc

less_on : (world : World) (x y z : Entry) → group_of_entries world x y ≡ Less → (group_of_entries world y z ≡ Less) ⊎ (group_of_entries world y z ≡ Equal)
    → group_of_entries world x z ≡ Less
less_on world x y z less (inl on) = (group_total world).trans x y z less on
less_on world x y z less (inr same) =
    let o = group_total world in
    o.antisymm x z ∙ ap ordering_reverse (sym (o.congr y z x same)) ∙ ap ordering_reverse (o.antisymm y x) ∙ twice (group_of_entries world x y) ∙ less where
      twice : (p : Ordering) → ordering_reverse (ordering_reverse p) ≡ p
      twice Less = refl
      twice Equal = refl
      twice Greater = refl

behind_run : (world : World) (x : Entry) (ys : List Entry) → IsRising (entry_order world) ys → Upto world x ys
    → (y : Entry) → In y (drop (prefix_len (is_same world x) ys) ys) → group_of_entries world x y ≡ Less
behind_run world x [] h upto y i = absurd i
behind_run world x (z ∷ zs) h upto y i = elim (cases_Bool (is_same world x z)) [
  | inl t ↦ behind_run world x zs h.1 (λ w j. upto w (inr j)) y (subst (In y) (back_yes (is_same world x) z zs t) i)
  | inr f ↦
      let first : group_of_entries world x z ≡ Less = same_not_less world x z f (upto z (inl refl)) in
      elim (subst (In y) (back_no (is_same world x) z zs f) i) [
        | inl e ↦ subst (λ w. group_of_entries world x w ≡ Less) e first
        | inr j ↦ less_on world x z y first (group_upto world z y (every_at (λ w. entry_order world z w ≡ Less) zs h.0 y j))
      ]
]

not_same : (world : World) (x y : Entry) → group_of_entries world x y ≡ Less → is_same world x y ≡ false
not_same world x y e = ap is_eq e

not_same_back : (world : World) (x y : Entry) → group_of_entries world y x ≡ Less → is_same world x y ≡ false
not_same_back world x y e = ap is_eq ((group_total world).antisymm x y ∙ ap ordering_reverse e)

run_is : (world : World) (x : Entry) (ys : List Entry) → IsRising (entry_order world) ys → Upto world x ys
    → filter (is_same world x) ys ≡ take (prefix_len (is_same world x) ys) ys
run_is world x [] h upto = refl
run_is world x (z ∷ zs) h upto = elim (cases_Bool (is_same world x z)) [
  | inl t ↦ filter_yes (is_same world x) z zs t ∙ ap (λ l. z ∷ l) (run_is world x zs h.1 (λ w j. upto w (inr j))) ∙ sym (front_yes (is_same world x) z zs t)
  | inr f ↦
      filter_none (is_same world x) (z ∷ zs) (λ y i. not_same world x y
      (behind_run world x (z ∷ zs) h upto y (subst (In y) (sym (back_no (is_same world x) z zs f)) i)))
      ∙ sym (front_no (is_same world x) z zs f)
]

-- The next group of a list that is cut.
flat_push : {X Y : Type 0} (f : X → List Y) (xs : List X) (x : X) → flat_map f (xs ++ x ∷ []) ≡ flat_map f xs ++ f x
flat_push f [] x = append-nil (f x)
flat_push f (y ∷ ys) x = ap (λ l. f y ++ l) (flat_push f ys x) ∙ sym (append_assoc (f y) (flat_map f ys) (f x))

pub cut_none : (world : World) (entries : List Entry) → IsCut world entries entries []
cut_none world entries = record {
  done = [];
  split = refl;
  apart = tt;
  heads = [];
  made = refl;
  rise = tt;
  within = tt;
  all = λ entry held. absurd (in_from [] entry held);
}

less_from_same : (world : World) (x r y : Entry) → is_same world x r ≡ true → group_of_entries world x y ≡ Less → group_of_entries world r y ≡ Less
less_from_same world x r y same less = sym ((group_total world).congr x r y (equal_from (group_of_entries world x r) same)) ∙ less

pub cut_more : (world : World) (entries : List Entry) (x : Entry) (xs : List Entry) (verdicts : List Verdict)
    → IsRising (entry_order world) entries → IsCut world entries (x ∷ xs) verdicts
    → IsCut world entries (drop (prefix_len (is_same world x) (x ∷ xs)) (x ∷ xs))
    (verdicts ++ made_of world (take (prefix_len (is_same world x) (x ∷ xs)) (x ∷ xs)))
cut_more world entries x xs verdicts rising cut =
    let left = x ∷ xs in
    let same = is_same world x in
    let run = take (prefix_len same left) left in
    let rest = drop (prefix_len same left) left in
    let left_rises : IsRising (entry_order world) left = rising_right (entry_order world) cut.done left (subst (IsRising (entry_order world)) cut.split rising) in
    let itself : group_of_entries world x x ≡ Equal = tied_itself (group_total world) x in
    let upto : Upto world x left = λ y i. elim i [
      | inl e ↦ inr (subst (λ z. group_of_entries world x z ≡ Equal) e itself)
      | inr j ↦ group_upto world x y (every_at (λ z. entry_order world x z ≡ Less) xs left_rises.0 y j)
    ] in
    let before : (d y : Entry) → In d cut.done → In y left → group_of_entries world d y ≡ Less = λ d y i j.
    every_at (λ z. group_of_entries world d z ≡ Less) left
    (every_at (λ z. AllByRecursion (λ w. group_of_entries world z w ≡ Less) left) cut.done cut.apart d i) y j in
    let parts : run ++ rest ≡ left = take-append-drop (prefix_len same left) left in
    let in_rest : (y : Entry) → In y rest → In y left = λ y i. subst (In y) parts (in_right run rest y i) in
    let in_run : (y : Entry) → In y run → same y ≡ true = λ y i.
    (from_filter same left y (subst (In y) (sym (run_is world x left left_rises upto)) i)).1 in
    let none : filter same cut.done ≡ [] = filter_none same cut.done (λ d i. not_same_back world x d (before d x i (inl refl))) in
    let group : filter same entries ≡ run =
    ap (filter same) cut.split ∙ filter-append same cut.done left ∙ ap (λ l. l ++ filter same left) none ∙ run_is world x left left_rises upto in
    let there : In x run = subst (In x) (run_is world x left left_rises upto) (in_filter same left x (inl refl) (ap is_eq itself)) in
    record {
      done = cut.done ++ run;
      split = cut.split ∙ ap (λ l. cut.done ++ l) (sym parts) ∙ sym (append_assoc cut.done run rest);
      apart = every_from (λ d. AllByRecursion (λ w. group_of_entries world d w ≡ Less) rest) (cut.done ++ run) (λ d i.
          every_from (λ w. group_of_entries world d w ≡ Less) rest (λ y j. elim (in_either cut.done run d i) [
            | inl old ↦ before d y old (in_rest y j)
            | inr new ↦ less_from_same world x d y (in_run d new) (behind_run world x left left_rises upto y j)
          ]));
      heads = cut.heads ++ x ∷ [];
      made = ap (λ v. v ++ made_of world run) cut.made
          ∙ ap (λ l. flat_map (verdict_at world entries) cut.heads ++ made_of world l) (sym group)
          ∙ sym (flat_push (verdict_at world entries) cut.heads x);
      rise = rising_append (group_of_entries world) cut.heads (x ∷ []) cut.rise (tt, tt) (λ h y i j. elim j [
        | inl e ↦ subst (λ z. group_of_entries world h z ≡ Less) e
            (before h x (in_from cut.done h (every_at (Contains cut.done) cut.heads cut.within h i)) (inl refl))
        | inr never ↦ absurd never
      ]);
      within = every_from (Contains (cut.done ++ run)) (cut.heads ++ x ∷ []) (λ h i. contains_from (cut.done ++ run) h (elim (in_either cut.heads (x ∷ []) h i) [
        | inl old ↦ in_left cut.done run h (in_from cut.done h (every_at (Contains cut.done) cut.heads cut.within h old))
        | inr new ↦ elim new [ inl e ↦ subst (λ z. In z (cut.done ++ run)) e (in_right cut.done run x there) | inr never ↦ absurd never ]
      ]));
      all = λ entry held. elim (in_either cut.done run entry (in_from (cut.done ++ run) entry held)) [
        | inl old ↦
            let a = cut.all entry (contains_from cut.done entry old) in
            (a.0, contains_from (cut.heads ++ x ∷ []) a.0 (in_left cut.heads (x ∷ []) a.0 (in_from cut.heads a.0 a.1)), a.2)
        | inr new ↦ (x, contains_from (cut.heads ++ x ∷ []) x (in_right cut.heads (x ∷ []) x (inl refl)), in_run entry new)
      ];
    }

pub cut_next : (world : World) (entries left : List Entry) (x : Entry) (verdicts : List Verdict) → slice_get left 0 ≡ Some x
    → IsRising (entry_order world) entries → IsCut world entries left verdicts
    → IsCut world entries (drop (prefix_len (is_same world x) left) left) (verdicts ++ made_of world (take (prefix_len (is_same world x) left) left))
cut_next world entries [] x verdicts e rising cut = let never : None ≡ Some x = e in cc
cut_next world entries (y ∷ ys) x verdicts e rising cut =
    let same : y ≡ x = cc in
    subst (λ z. IsCut world entries (drop (prefix_len (is_same world z) (y ∷ ys)) (y ∷ ys)) (verdicts ++ made_of world (take (prefix_len (is_same world z) (y ∷ ys)) (y ∷ ys)))) same
    (cut_more world entries y ys verdicts rising cut)

pub some_run : (world : World) (left : List Entry) (x : Entry) → slice_get left 0 ≡ Some x → 0 < prefix_len (is_same world x) left
some_run world [] x e = let never : None ≡ Some x = e in cc
some_run world (y ∷ ys) x e =
    let same : y ≡ x = cc in
    let itself : is_same world x y ≡ true = ap (is_same world x) same ∙ ap is_eq (tied_itself (group_total world) x) in
    let len = len_yes (is_same world x) y ys itself in
    omega arith
