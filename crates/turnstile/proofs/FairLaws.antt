-- The steps keep the rule on tickets.
use Rattle.std.proofs.Common.{◌≡◌, ◌≢◌, ◌⊎◌, inl, inr, ℕ, ◌+◌, ◌<◌, ◌≤◌, List, [], ◌∷◌, ◌++◌, slice_set, Some, refl, sym, ap, subst, ◌∙◌, arith}
use mathlib.Core.Option.{some}
use lib.ListN.{get_elem?}
use Rattle.atomic_table.proofs.Lists.{at_set, at_snoc}
use Rattle.turnstile.specs.declared.board.Role.{Role}
use Rattle.turnstile.specs.declared.board.Role.TheVariants.{Idle, Waits, Holds, Ends}
use Rattle.turnstile.specs.Rule.{IsFair, HasTicket, HasTurn, ticket_of, turn_of, tickets_of}
use Rattle.turnstile.proofs.Totals.{total_set, total-append}

module _ (roles : List Role) (id i t : ℕ) (w : Role) where
  pub ticket_after : HasTicket (slice_set roles id w) i t → ((i ≡ id) × (ticket_of w ≡ Some t)) ⊎ ((i ≢ id) × HasTicket roles i t)
  ticket_after h = elim (at_set roles id i w h.0 h.1) [
    | inl p ↦ inl (p.0, ap ticket_of p.1 ∙ h.2)
    | inr p ↦ inr (p.0, (h.0, p.1, h.2))
  ]

  pub turn_after : HasTurn (slice_set roles id w) i t → ((i ≡ id) × (turn_of w ≡ Some t)) ⊎ ((i ≢ id) × HasTurn roles i t)
  turn_after h = elim (at_set roles id i w h.0 h.1) [
    | inl p ↦ inl (p.0, ap turn_of p.1 ∙ h.2)
    | inr p ↦ inr (p.0, (h.0, p.1, h.2))
  ]

-- who has the turn has its ticket
pub has_ticket : (r : Role) (t : ℕ) → turn_of r ≡ Some t → ticket_of r ≡ Some t
has_ticket Idle t e = absurd cc
has_ticket (Waits u) t e = absurd cc
has_ticket (Holds u) t e = e
has_ticket (Ends u) t e = e

module _ (drawn passed : ℕ) (roles : List Role) (fair : IsFair drawn passed roles) where
  pub one_turn : (i j t u : ℕ) → HasTurn roles i t → HasTurn roles j u → i ≡ j
  one_turn i j t u h k =
      let a : HasTicket roles i t = (h.0, h.1, has_ticket h.0 t h.2) in
      let b : HasTicket roles j u = (k.0, k.1, has_ticket k.0 u k.2) in
      fair.apart i j t a (subst (HasTicket roles j) (fair.turn j u k ∙ sym (fair.turn i t h)) b)

module _ (drawn passed id : ℕ) (roles : List Role) (fair : IsFair drawn passed roles) where
  pub draw_fair : get_elem? roles id ≡ some Idle → drawn ≤ 9223372036854775808 → IsFair (drawn + 1) passed (slice_set roles id (Waits drawn))
  draw_fair here low =
      let least : passed ≤ drawn = (let m = fair.many in omega arith) in
      let same : (t : ℕ) → ticket_of (Waits drawn) ≡ Some t → drawn ≡ t = λ t e. (let f : Some drawn ≡ Some t = e in cc) in
      record {
        room = omega arith;
        many = let m = fair.many in let more = total_set tickets_of roles id Idle (Waits drawn) here in omega arith;
        tickets = λ i t h. elim (ticket_after roles id i t (Waits drawn) h) [
          | inl p ↦ let e = same t p.1 in (omega arith, omega arith)
          | inr p ↦ let k = fair.tickets i t p.1 in (k.0, let below = k.1 in omega arith)
        ];
        turn = λ i t h. elim (turn_after roles id i t (Waits drawn) h) [
          | inl p ↦ absurd (let e = p.1 in cc)
          | inr p ↦ fair.turn i t p.1
        ];
        apart = λ i j t h k. elim (ticket_after roles id i t (Waits drawn) h) [
          | inl p ↦ elim (ticket_after roles id j t (Waits drawn) k) [
            | inl q ↦ p.0 ∙ sym q.0
            | inr q ↦ let e = same t p.1 in let below = (fair.tickets j t q.1).1 in absurd (omega arith)
          ]
          | inr p ↦ elim (ticket_after roles id j t (Waits drawn) k) [
            | inl q ↦ let e = same t q.1 in let below = (fair.tickets i t p.1).1 in absurd (omega arith)
            | inr q ↦ fair.apart i j t p.1 q.1
          ]
        ];
      }

  -- who has the next ticket finds that it is its turn, or is about to end it
  pub serve_fair : (r w : Role) → get_elem? roles id ≡ some r → ticket_of r ≡ Some passed → ticket_of w ≡ Some passed → turn_of w ≡ Some passed → tickets_of w ≡ tickets_of r → IsFair drawn passed (slice_set roles id w)
  serve_fair r w here has_r has_w turn_w alike =
      let mine : HasTicket roles id passed = (r, here, has_r) in
      let passed_is : (t : ℕ) → ticket_of w ≡ Some t → passed ≡ t = λ t e. (let f : Some passed ≡ Some t = sym has_w ∙ e in cc) in
      let one : (i t : ℕ) → i ≢ id → HasTicket roles i t → passed ≡ t → ⊥ = λ i t n h e. n (fair.apart i id passed (subst (HasTicket roles i) (sym e) h) mine) in
      record {
        room = fair.room;
        many = let m = fair.many in let more = total_set tickets_of roles id r w here in omega arith;
        tickets = λ i t h. elim (ticket_after roles id i t w h) [
          | inl p ↦ subst (λ u. (passed ≤ u) × (u < drawn)) (passed_is t p.1) (fair.tickets id passed mine)
          | inr p ↦ fair.tickets i t p.1
        ];
        turn = λ i t h. elim (turn_after roles id i t w h) [
          | inl p ↦ (let f : Some t ≡ Some passed = sym p.1 ∙ turn_w in cc)
          | inr p ↦ fair.turn i t p.1
        ];
        apart = λ i j t h k. elim (ticket_after roles id i t w h) [
          | inl p ↦ elim (ticket_after roles id j t w k) [
            | inl q ↦ p.0 ∙ sym q.0
            | inr q ↦ absurd (one j t q.0 q.1 (passed_is t p.1))
          ]
          | inr p ↦ elim (ticket_after roles id j t w k) [
            | inl q ↦ absurd (one i t p.0 p.1 (passed_is t q.1))
            | inr q ↦ fair.apart i j t p.1 q.1
          ]
        ];
      }

  pub pass_fair : get_elem? roles id ≡ some (Holds passed) → IsFair drawn (passed + 1) (slice_set roles id Idle)
  pass_fair here =
      let mine : HasTicket roles id passed = (Holds passed, here, refl) in
      let turn : HasTurn roles id passed = (Holds passed, here, refl) in
      let below = (fair.tickets id passed mine).1 in
      let other : (i t : ℕ) → i ≢ id → HasTicket roles i t → t ≢ passed = λ i t n h e. n (fair.apart i id passed (subst (HasTicket roles i) e h) mine) in
      record {
        room = fair.room;
        many = let m = fair.many in let more = total_set tickets_of roles id (Holds passed) Idle here in omega arith;
        tickets = λ i t h. elim (ticket_after roles id i t Idle h) [
          | inl p ↦ absurd (let e = p.1 in cc)
          | inr p ↦ let k = fair.tickets i t p.1 in let n = other i t p.0 p.1 in (let least = k.0 in omega arith, k.1)
        ];
        turn = λ i t h. elim (turn_after roles id i t Idle h) [
          | inl p ↦ absurd (let e = p.1 in cc)
          | inr p ↦ absurd (p.0 (one_turn drawn passed roles fair i id t passed p.1 turn))
        ];
        apart = λ i j t h k. elim (ticket_after roles id i t Idle h) [
          | inl p ↦ absurd (let e = p.1 in cc)
          | inr p ↦ elim (ticket_after roles id j t Idle k) [
            | inl q ↦ absurd (let e = q.1 in cc)
            | inr q ↦ fair.apart i j t p.1 q.1
          ]
        ];
      }

module _ (roles : List Role) (i t : ℕ) where
  ticket_before : HasTicket (roles ++ Idle ∷ []) i t → HasTicket roles i t
  ticket_before h = elim (at_snoc roles Idle h.0 i h.1) [
    | inl e ↦ (h.0, e, h.2)
    | inr e ↦ absurd (let f = ap ticket_of e ∙ h.2 in cc)
  ]

  pub turn_before : HasTurn (roles ++ Idle ∷ []) i t → HasTurn roles i t
  turn_before h = elim (at_snoc roles Idle h.0 i h.1) [
    | inl e ↦ (h.0, e, h.2)
    | inr e ↦ absurd (let f = ap turn_of e ∙ h.2 in cc)
  ]

pub split_fair : (drawn passed : ℕ) (roles : List Role) → IsFair drawn passed roles → IsFair drawn passed (roles ++ Idle ∷ [])
split_fair drawn passed roles fair = record {
  room = fair.room;
  many = let m = fair.many in let more = total-append tickets_of roles (Idle ∷ []) in omega arith;
  tickets = λ i t h. fair.tickets i t (ticket_before roles i t h);
  turn = λ i t h. fair.turn i t (turn_before roles i t h);
  apart = λ i j t h k. fair.apart i j t (ticket_before roles i t h) (ticket_before roles j t k);
}
