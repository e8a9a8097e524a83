-- Where the value is, and what seats know, before and after a step.
use Rattle.std.proofs.Common.{◌≡◌, ◌≢◌, inl, inr, ℕ, zero, suc, ◌<◌, ◌≤◌, List, [], ◌∷◌, ◌++◌, length, slice_set, Option, Some, refl, sym, ap, subst, ◌∙◌, arith}
use mathlib.Core.Option.{Option as Maybe, some, some-injective, some-ne-none}
use mathlib.Core.List.{append_assoc}
use lib.ListN.{get_elem?}
use Rattle.atomic_table.proofs.Lists.{at_set, set_else, at_longer}
use Rattle.turnstile.specs.declared.board.Known.{Known}
use Rattle.turnstile.specs.declared.board.View.{View}
use Rattle.turnstile.specs.declared.board.Role.{Role}
use Rattle.turnstile.specs.declared.board.Role.TheVariants.{Idle, Waits, Holds, Ends}
use Rattle.turnstile.specs.Histories.{times, NoneOf, Begins, AtMost}
use Rattle.turnstile.specs.Seats.{names}
use Rattle.turnstile.specs.Rule.{IsFair, IsPlaced, IsTaken, HasTicket, HasNumbers, all_names, Knows, AllKnow, turn_of}
use Rattle.turnstile.proofs.Totals.{total_set, total_one, total_two, times-append}
use Rattle.turnstile.proofs.FairLaws.{turn_after, turn_before, one_turn, has_ticket}

-- ---- lists

pub there : {A : Type 0} (l : List A) (i : ℕ) (a : A) → get_elem? l i ≡ some a → i < length l
there [] i a e = absurd (some-ne-none a (sym e))
there (x ∷ xs) zero a e = omega arith
there (x ∷ xs) (suc i) a e = let h = there xs i a e in omega arith

same_at : {A : Type 0} {q r : A} (l : List A) (i j : ℕ) → i ≡ j → get_elem? l i ≡ some q → get_elem? l j ≡ some r → q ≡ r
same_at {A} {q} {r} l i j e a b = some-injective q r (sym a ∙ ap (get_elem? l) e ∙ b)

-- a fact of each view, where one view is another
pub all_set : {V : Type 0} (P : V → Type 0) (views : List V) (id : ℕ) (w : V) → P w → ((i : ℕ) (v : V) → i ≢ id → get_elem? views i ≡ some v → P v) → (i : ℕ) (v : V) → get_elem? (slice_set views id w) i ≡ some v → P v
all_set P views id w mine others i v h = elim (at_set views id i w v h) [
  | inl p ↦ subst P p.1 mine
  | inr p ↦ others i v p.0 p.1
]

-- ---- where the value is

turn_taken : {T : Type 0} (homes : List (Maybe (Option T))) (r : Role) → IsTaken homes r → (t : ℕ) × (turn_of r ≡ Some t)
turn_taken homes Idle h = absurd h
turn_taken homes (Waits t) h = absurd h
turn_taken homes (Holds t) h = (t, refl)
turn_taken homes (Ends t) h = (t, refl)

module _ {T E : Type 0} (stands : T → List E → Type 0) (homes : List (Maybe (Option T))) (roles : List Role) (log : List E) where
  pub draw_placed : (id t : ℕ) → get_elem? roles id ≡ some Idle → IsPlaced stands homes roles log → IsPlaced stands homes (slice_set roles id (Waits t)) log
  draw_placed id t here (inl p) = inl (
    p.0,
    p.1,
    p.2,
    λ i u h. elim (turn_after roles id i u (Waits t) h) [
      | inl q ↦ absurd (let e = q.1 in cc)
      | inr q ↦ p.3 i u q.1
    ],
  )
  draw_placed id t here (inr p) = inr (p.0, p.1, set_else roles id p.0 (Waits t) (λ e. subst (IsTaken homes) (same_at roles p.0 id e p.2 here) p.3) ∙ p.2, p.3)

  -- who waits for the turn that it is finds the value at home
  pub at_home : (drawn passed id : ℕ) → IsFair drawn passed roles → get_elem? roles id ≡ some (Waits passed) → IsPlaced stands homes roles log → (v : T) × (homes ≡ some (Some v) ∷ []) × stands v log
  at_home drawn passed id fair here (inl p) = (p.0, p.1, p.2)
  at_home drawn passed id fair here (inr p) =
      let turn = turn_taken homes p.1 p.3 in
      let same = fair.turn p.0 turn.0 (p.1, p.2, turn.1) in
      let mine : HasTicket roles id passed = (Waits passed, here, refl) in
      let i = has_ticket p.1 turn.0 turn.1 in
      let e = fair.apart p.0 id passed (subst (HasTicket roles p.0) same (p.1, p.2, i)) mine in
      absurd (subst (IsTaken homes) (same_at roles p.0 id e p.2 here) p.3)

  -- who has the turn has the value, or has taken it for good
  pub is_taken : (drawn passed id t : ℕ) (r : Role) → IsFair drawn passed roles → get_elem? roles id ≡ some r → turn_of r ≡ Some t → IsPlaced stands homes roles log → IsTaken homes r
  is_taken drawn passed id t r fair here has (inl p) = absurd (p.3 id t (r, here, has))
  is_taken drawn passed id t r fair here has (inr p) =
      let turn = turn_taken homes p.1 p.3 in
      let e = one_turn drawn passed roles fair p.0 id turn.0 t (p.1, p.2, turn.1) (r, here, has) in
      subst (IsTaken homes) (same_at roles p.0 id e p.2 here) p.3

  pub split_placed : IsPlaced stands homes roles log → IsPlaced stands homes (roles ++ Idle ∷ []) log
  split_placed (inl p) = inl (p.0, p.1, p.2, λ i t h. p.3 i t (turn_before roles i t h))
  split_placed (inr p) = inr (p.0, p.1, at_longer roles (Idle ∷ []) p.0 p.1 p.2, p.3)

-- ---- numbers

module _ {E : Type 0} (split id : ℕ) (views : List (View E)) (v w : View E) (here : get_elem? views id ≡ some v) where
  pub numbers_set : ((n : ℕ) → times n (all_names w.known) ≡ times n (all_names v.known)) → HasNumbers split views → HasNumbers split (slice_set views id w)
  numbers_set same have n =
      let t = total_set (λ (u : View E). times n (all_names u.known)) views id v w here in
      let e = same n in
      let h = have n in (
        let most = h.0 in omega arith,
        λ above. let none = h.1 above in omega arith,
      )

  -- a number of one view is in no other
  pub in_one : (n i : ℕ) (u : View E) → HasNumbers split views → i ≢ id → get_elem? views i ≡ some u → 1 ≤ times n (all_names v.known) → times n (all_names u.known) ≡ 0
  in_one n i u have apart at some_time =
      let both = total_two (λ (x : View E). times n (all_names x.known)) views i id u v apart at here in
      let most = (have n).0 in
      omega arith

  -- none of the numbers is greater than those split off
  pub is_low : (n : ℕ) → HasNumbers split views → 1 ≤ times n (all_names v.known) → ¬ (split < n)
  is_low n have some_time above =
      let t = total_one (λ (x : View E). times n (all_names x.known)) views id v here in
      let none = (have n).1 above in
      absurd (omega arith)

-- ---- histories

module _ {E : Type 0} (by : E → ℕ) where
  pub none-append : (ns : List ℕ) (xs ys : List E) → NoneOf by ns xs → NoneOf by ns ys → NoneOf by ns (xs ++ ys)
  none-append ns [] ys h k = k
  none-append ns (x ∷ xs) ys h k = (h.0, none-append ns xs ys h.1 k)

  pub none_last : (ns : List ℕ) (xs ys : List E) → NoneOf by ns (xs ++ ys) → NoneOf by ns ys
  none_last ns [] ys h = h
  none_last ns (x ∷ xs) ys h = none_last ns xs ys h.1

  pub none_first : (ns : List ℕ) (xs ys : List E) → NoneOf by ns (xs ++ ys) → NoneOf by ns xs
  none_first ns [] ys h = tt
  none_first ns (x ∷ xs) ys h = (h.0, none_first ns xs ys h.1)

  pub none_both : (ns ms : List ℕ) (xs : List E) → NoneOf by ns xs → NoneOf by ms xs → NoneOf by (ns ++ ms) xs
  none_both ns ms [] h k = tt
  none_both ns ms (x ∷ xs) h k =
      let a = h.0 in
      let b = k.0 in
      let both = times-append (by x) ns ms in (omega arith, none_both ns ms xs h.1 k.1)

  pub at_most_more : (n : ℕ) (es : List E) (e : E) → AtMost by n es → by e ≤ n → AtMost by n (es ++ e ∷ [])
  at_most_more n [] e h low = (low, tt)
  at_most_more n (x ∷ xs) e h low = (h.0, at_most_more n xs e h.1 low)

  pub at_most_later : (n m : ℕ) (es : List E) → n ≤ m → AtMost by n es → AtMost by m es
  at_most_later n m [] least h = tt
  at_most_later n m (x ∷ xs) least h = (let low = h.0 in omega arith, at_most_later n m xs least h.1)

  -- a number above all of them has no entry
  pub none_above : (n m : ℕ) (es : List E) → n < m → AtMost by n es → NoneOf by (m ∷ []) es
  none_above n m [] above h = tt
  none_above n m (x ∷ xs) above h = (let low = h.0 in grind arith, none_above n m xs above h.1)

  pub begins_more : (ns : List ℕ) (log seen : List E) (e : E) → times (by e) ns ≡ 0 → Begins by ns log seen → Begins by ns (log ++ e ∷ []) seen
  begins_more ns log seen e other h = (h.0 ++ e ∷ [], ap (λ l. l ++ e ∷ []) h.1 ∙ append_assoc seen h.0 (e ∷ []), none-append ns h.0 (e ∷ []) h.2 (other, tt))

  -- ---- what seats know

  module _ (drawn drawn' split split' : ℕ) (log log' : List E) where
    pub each_known : ((k : Known E) → Knows by drawn split log k → Knows by drawn' split' log' k) → (ks : List (Known E)) → AllKnow by drawn split log ks → AllKnow by drawn' split' log' ks
    each_known f [] all = tt
    each_known f (k ∷ ks) all = (f k all.0, each_known f ks all.1)

    pub each_other : (n : ℕ) → ((k : Known E) → times n (names k) ≡ 0 → Knows by drawn split log k → Knows by drawn' split' log' k) → (ks : List (Known E)) → times n (all_names ks) ≡ 0 → AllKnow by drawn split log ks → AllKnow by drawn' split' log' ks
    each_other n f [] free all = tt
    each_other n f (k ∷ ks) free all =
        let both = times-append n (names k) (all_names ks) in
        (f k (omega arith) all.0, each_other n f ks (omega arith) all.1)
