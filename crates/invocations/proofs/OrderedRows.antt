-- The order of deadlines, and their index after a change of the rows.
use Rattle.std.proofs.Common.{◌≡◌, ◌≢◌, ◌⊎◌, ◌<◌, ◌≤◌, ◌<ℤ◌, ◌≤ℤ◌, ◌+◌, ℕ, zero, suc, ℤ, List, [], ◌∷◌, ◌++◌, length, get_or, set, Contains, Option, Some, None, IfSome, Ordering, Less, Equal, Greater, refl, sym, ap, ◌∙◌, subst, inl, inr, arith}
use Rattle.std.specs.Cmp.{IsTotalOrder}
use Rattle.std.specs.List.{All, slice_get}
use Rattle.std.specs.Ordering.{nat_cmp, int_cmp, ordering_then, MatchOrdering}
use Rattle.std.proofs.lemmas.Bool.{cases_eq}
use Rattle.std.proofs.lemmas.Cmp.{then_total, on_total, nat_cmp_total, int_cmp_total, int_ranked, ranked}
use Rattle.std.proofs.lemmas.Int.{ints}
use Rattle.std.proofs.lemmas.List.{get_or-take, length-take, length_push, length-set}
use Rattle.std.proofs.lemmas.Option.{same_Some, slice_get-get_or, slice_get_within}
use Rattle.names_realms.specs.declared.states.State.{State}
use Rattle.names_realms.specs.declared.states.State.TheVariants.{Active, Finalizing, Finalized}
use Rattle.invocations.specs.declared.due.Due.{Due}
use Rattle.invocations.specs.declared.invocation.Invocation.{Invocation}
use Rattle.invocations.specs.Due.{IsDue, IsNextDue}
use Rattle.invocations.specs.Rows.{IsInState}
use Rattle.lists.specs.Orders.{IsRising, HasOneMore, HasOneFewer}
use Rattle.invocations.specs.Orders.{IsDueIndex, IsInTurn, due_order, deadline_in, deadlines_of, place_at, place_in}
use Rattle.lists.proofs.OrderLemmas.{first_least}
use Rattle.invocations.proofs.RowLemmas.{at_place, at_front, at_end, contained}

-- the first of the entries
pub first_is : (entries : List Due) (due : Due) → 0 < length entries → due ≡ get_or entries 0 due → slice_get entries 0 ≡ Some due
first_is entries due within e = slice_get-get_or entries 0 due within ∙ ap Some (sym e)

-- there is no first entry where there is none
pub first_none : (entries : List Due) (count : ℕ) → count ≡ length entries → (0 < count → ⊥) → slice_get entries 0 ≡ None
first_none [] count e none = refl
first_none (due ∷ rest) count e none = absurd (none (omega (arith, e)))

pub due_order_total : IsTotalOrder due_order
due_order_total = then_total (on_total (λ (d : Due). d.deadline) int_cmp_total) (on_total (λ (d : Due). d.place) nat_cmp_total)

then_equal : (o p : Ordering) → ordering_then o p ≡ Equal → (o ≡ Equal) × (p ≡ Equal)
then_equal Less p e = let no : Less ≡ Equal = e in cc
then_equal Equal p e = (refl, e)
then_equal Greater p e = let no : Greater ≡ Equal = e in cc

then_less : (o p : Ordering) → ordering_then o p ≡ Less → (o ≡ Less) ⊎ ((o ≡ Equal) × (p ≡ Less))
then_less Less p e = inl refl
then_less Equal p e = inr (refl, e)
then_less Greater p e = let no : Greater ≡ Less = e in cc

int_equal : (x y : ℤ) → int_cmp x y ≡ Equal → x ≡ y
int_equal x y e = subst (λ r. MatchOrdering r (x <ℤ y) (x ≡ y) (y <ℤ x)) e (int_ranked x y (int_cmp x y) refl)

int_less : (x y : ℤ) → int_cmp x y ≡ Less → x <ℤ y
int_less x y e = subst (λ r. MatchOrdering r (x <ℤ y) (x ≡ y) (y <ℤ x)) e (int_ranked x y (int_cmp x y) refl)

nat_equal : (x y : ℕ) → nat_cmp x y ≡ Equal → x ≡ y
nat_equal x y e = subst (λ r. MatchOrdering r (x < y) (x ≡ y) (y < x)) e (ranked x y (nat_cmp x y) refl)

nat_less : (x y : ℕ) → nat_cmp x y ≡ Less → x < y
nat_less x y e = subst (λ r. MatchOrdering r (x < y) (x ≡ y) (y < x)) e (ranked x y (nat_cmp x y) refl)

pub due_same : (a b : Due) → a.deadline ≡ b.deadline → a.place ≡ b.place → a ≡ b
due_same a b e f =
    let at : ℤ → Due = λ z. record { deadline = z; place = a.place } in
    let to : ℕ → Due = λ p. record { deadline = b.deadline; place = p } in
    ap at e ∙ ap to f

pub same_due : (a b : Due) → due_order a b ≡ Equal → a ≡ b
same_due a b e =
    let parts = then_equal (int_cmp a.deadline b.deadline) (nat_cmp a.place b.place) e in
    let deadlines : a.deadline ≡ b.deadline = int_equal a.deadline b.deadline parts.0 in
    let places : a.place ≡ b.place = nat_equal a.place b.place parts.1 in due_same a b deadlines places

due_less : (a b : Due) → due_order a b ≡ Less → (a.deadline <ℤ b.deadline) ⊎ ((a.deadline ≡ b.deadline) × (a.place < b.place))
due_less a b e =
    elim (then_less (int_cmp a.deadline b.deadline) (nat_cmp a.place b.place) e) [
      | inl lt ↦ inl (int_less a.deadline b.deadline lt)
      | inr h ↦ inr (int_equal a.deadline b.deadline h.0, nat_less a.place b.place h.1)
    ]

active_from : (s : State) (z d : ℤ) → deadline_in s z ≡ Some d → (s ≡ Active) × (z ≡ d)
active_from Active z d e = (refl, same_Some z d e)
active_from Finalizing z d e = let no : None ≡ Some d = e in cc
active_from Finalized z d e = let no : None ≡ Some d = e in cc

row_of : (rows : List Invocation) (p : ℕ) (d : ℤ) → slice_get (deadlines_of rows) p ≡ Some (Some d)
    → (row : Invocation) × (slice_get rows p ≡ Some row) × (row.state ≡ Active) × (row.deadline ≡ d)
row_of [] p d e = let no : None ≡ Some (Some d) = e in cc
row_of (x ∷ xs) zero d e =
    let parts = active_from x.state x.deadline d (same_Some (deadline_in x.state x.deadline) (Some d) e) in (x, refl, parts.0, parts.1)
row_of (x ∷ xs) (suc p) d e = row_of xs p d e

pub deadline_at : (rows : List Invocation) (p : ℕ) (d : Invocation) → p < length rows → (get_or rows p d).state ≡ Active
    → slice_get (deadlines_of rows) p ≡ Some (Some (get_or rows p d).deadline)
deadline_at [] p d within e = absurd (omega arith)
deadline_at (x ∷ xs) zero d within e = ap (λ s. Some (deadline_in s x.deadline)) e
deadline_at (x ∷ xs) (suc p) d within e = deadline_at xs p d (omega arith) e

-- each due row stands in the index, no earlier than the first
not_before : (rows : List Invocation) (first : Due) (entries : List Due) → IsDueIndex (deadlines_of rows) (first ∷ entries)
    → (k : ℕ) (d : Invocation) → k < length rows → (get_or rows k d).state ≡ Active
    → (first.deadline <ℤ (get_or rows k d).deadline) ⊎ ((first.deadline ≡ (get_or rows k d).deadline) × (first.place ≤ k))
not_before rows first entries index k d within active =
    let due : Due = record { deadline = (get_or rows k d).deadline; place = k } in
    elim (first_least due_order first entries due index.rising ((index.all due).1 (deadline_at rows k d within active))) [
      | inl same ↦ inr (ap (λ (e : Due). e.deadline) same, let at = ap (λ (e : Due). e.place) same in omega arith)
      | inr less ↦ elim (due_less first due less) [ inl lt ↦ inl lt | inr h ↦ inr (h.0, omega (arith, h.1)) ]
    ]

next_of : (rows : List Invocation) (moment : ℤ) (first : Due) (entries : List Due) → IsDueIndex (deadlines_of rows) (first ∷ entries)
    → first.deadline ≤ℤ moment → (row : Invocation) × IsNextDue rows moment first.place row
next_of rows moment first entries index come =
    let found = row_of rows first.place first.deadline ((index.all first).0 (zero, omega arith, refl)) in
    let row = found.0 in
    let same : row.deadline ≡ first.deadline = found.3 in (
      row,
      record {
        stands = found.1;
        due = (found.2, subst (λ z. z ≤ℤ moment) (sym same) come);
        least = λ k d within other. elim (not_before rows first entries index k d within other.0) [
          | inl lt ↦ omega (arith, ints, lt, same)
          | inr h ↦ omega (arith, ints, h.0, same)
        ];
        first = λ k d within.
            let low : k < first.place = omega (arith, length-take first.place rows) in
            let held : k < length rows = omega (arith, length-take first.place rows) in
            rw (get_or-take first.place rows k d low) (λ other. elim (not_before rows first entries index k d held other.0) [
              | inl lt ↦ omega (arith, ints, lt, same)
              | inr h ↦ absurd (omega (arith, h.1, low))
            ]);
      },
    )

pub next_due : (rows : List Invocation) (moment : ℤ) (entries : List Due) (first : Due) → IsDueIndex (deadlines_of rows) entries
    → slice_get entries 0 ≡ Some first → first.deadline ≤ℤ moment → (row : Invocation) × IsNextDue rows moment first.place row
next_due rows moment [] first index e come = let no : None ≡ Some first = e in cc
next_due rows moment (x ∷ xs) first index e come =
    let same : x ≡ first = same_Some x first e in
    next_of rows moment first xs (subst (λ (y : Due). IsDueIndex (deadlines_of rows) (y ∷ xs)) same index) come

pub none_due : (rows : List Invocation) (moment : ℤ) (entries : List Due) (first : Due) → IsDueIndex (deadlines_of rows) entries
    → slice_get entries 0 ≡ Some first → moment <ℤ first.deadline → All (λ row. ¬ IsDue moment row) rows
none_due rows moment [] first index e later = let no : None ≡ Some first = e in cc
none_due rows moment (x ∷ xs) first index e later =
    let same : x ≡ first = same_Some x first e in
    let here = subst (λ (y : Due). IsDueIndex (deadlines_of rows) (y ∷ xs)) same index in
    λ k d within due. elim (not_before rows first xs here k d within due.0) [
      | inl lt ↦ omega (arith, ints, lt, later, due.1)
      | inr h ↦ omega (arith, ints, h.0, later, due.1)
    ]

pub none_active : (rows : List Invocation) (moment : ℤ) (entries : List Due) → IsDueIndex (deadlines_of rows) entries
    → slice_get entries 0 ≡ None → All (λ row. ¬ IsDue moment row) rows
none_active rows moment [] index e k d within due =
    let held = (index.all (record { deadline = (get_or rows k d).deadline; place = k })).1 (deadline_at rows k d within due.0) in
    omega (arith, held.1)
none_active rows moment (x ∷ xs) index e k d within due = let no : Some x ≡ None = e in cc

active_row : (rows : List Invocation) (p : ℕ) (row : Invocation) → slice_get rows p ≡ Some row → row.state ≡ Active → IsInState Active rows p
active_row [] p row e is = let no : None ≡ Some row = e in cc
active_row (x ∷ xs) zero row e is = ap (λ s. Some s) (ap (λ (r : Invocation). r.state) (same_Some x row e) ∙ is)
active_row (x ∷ xs) (suc p) row e is = active_row xs p row e is

turn_active : (rows : List Invocation) (entries : List Due) (turn : ℕ) (at : Option Due) (found : Option ℕ) → IsDueIndex (deadlines_of rows) entries
    → slice_get entries turn ≡ at → found ≡ place_in at → IfSome found (IsInState Active rows)
turn_active rows entries turn None found index e is = subst (λ o. IfSome o (IsInState Active rows)) (sym is) tt
turn_active rows entries turn (Some due) found index e is =
    let row = row_of rows due.place due.deadline ((index.all due).0 (contained entries turn due e)) in
    subst (λ o. IfSome o (IsInState Active rows)) (sym is) (active_row rows due.place row.0 row.1 row.2)

-- the row at a place of the order is active
pub active_in_turn : (rows : List Invocation) (turn : ℕ) (found : Option ℕ) → IsInTurn rows turn found → IfSome found (IsInState Active rows)
active_in_turn rows turn found h = turn_active rows h.0 turn (slice_get h.0 turn) found h.1 refl h.2

pub turn_is : (rows : List Invocation) (entries : List Due) (turn : ℕ) (found : Option ℕ) → IsDueIndex (deadlines_of rows) entries
    → found ≡ place_at entries turn → IsInTurn rows turn found
turn_is rows entries turn found index e = (entries, index, e)

pub due_none : IsDueIndex [] []
due_none = record {
  rising = tt;
  all = λ due. (λ held. absurd (omega (arith, held.1)), λ e. let no : None ≡ Some (Some due.deadline) = e in cc);
  few = omega arith;
}

-- a row more, which isn't active
pub due_without : (deadlines : List (Option ℤ)) (entries : List Due) → IsDueIndex deadlines entries
    → IsDueIndex (deadlines ++ None ∷ []) entries
due_without deadlines entries index = record {
  rising = index.rising;
  all = λ due. (
    λ held. at_front deadlines None (Some due.deadline) due.place ((index.all due).0 held),
    λ e. elim (at_place deadlines None (Some due.deadline) due.place e) [
      | inl old ↦ (index.all due).1 old
      | inr h ↦ let no : None ≡ Some due.deadline = h.1 in cc
    ],
  );
  few = let le = index.few in omega (arith, length_push {X = Option ℤ} deadlines None);
}

-- a row more, which is active
pub due_added : (deadlines : List (Option ℤ)) (entries new : List Due) (due : Due) → IsDueIndex deadlines entries
    → due.place ≡ length deadlines → IsRising due_order new → HasOneMore entries due new → length new ≡ length entries + 1
    → IsDueIndex (deadlines ++ Some due.deadline ∷ []) new
due_added deadlines entries new due index at rising more count = record {
  rising = rising;
  all = λ d. (
    λ held. elim ((more d).0 held) [
      | inl old ↦ at_front deadlines (Some due.deadline) (Some d.deadline) d.place ((index.all d).0 old)
      | inr e ↦ subst (λ (x : Due). slice_get (deadlines ++ Some due.deadline ∷ []) x.place ≡ Some (Some x.deadline)) (sym e)
          (subst (λ p. slice_get (deadlines ++ Some due.deadline ∷ []) p ≡ Some (Some due.deadline)) (sym at) (at_end deadlines (Some due.deadline)))
    ],
    λ e. (more d).1 (elim (at_place deadlines (Some due.deadline) (Some d.deadline) d.place e) [
      | inl old ↦ inl ((index.all d).1 old)
      | inr h ↦ inr (let deadline : d.deadline ≡ due.deadline = sym (same_Some due.deadline d.deadline h.1) in
          let place : d.place ≡ due.place = h.0 ∙ sym at in due_same d due deadline place)
    ]),
  );
  few = let le = index.few in omega (arith, length_push {X = Option ℤ} deadlines (Some due.deadline));
}

pub absent_next : (deadlines : List (Option ℤ)) (entries : List Due) (due : Due) → IsDueIndex deadlines entries
    → due.place ≡ length deadlines → ¬ Contains entries due
absent_next deadlines entries due index at held =
    let within = slice_get_within deadlines due.place (Some due.deadline) ((index.all due).0 held) in omega (arith, within, at)

get_set_same : {X : Type 0} (xs : List X) (p : ℕ) (v : X) → p < length xs → slice_get (set xs p v) p ≡ Some v
get_set_same [] p v within = absurd (omega arith)
get_set_same (x ∷ xs) zero v within = refl
get_set_same (x ∷ xs) (suc p) v within = get_set_same xs p v (omega arith)

get_set_other : {X : Type 0} (xs : List X) (p q : ℕ) (v : X) → q ≢ p → slice_get (set xs p v) q ≡ slice_get xs q
get_set_other [] p q v other = refl
get_set_other (x ∷ xs) zero zero v other = absurd (other refl)
get_set_other (x ∷ xs) zero (suc q) v other = refl
get_set_other (x ∷ xs) (suc p) zero v other = refl
get_set_other (x ∷ xs) (suc p) (suc q) v other = get_set_other xs p q v (λ e. other (ap suc e))

-- a row that is active no longer
pub due_removed : (deadlines : List (Option ℤ)) (entries new : List Due) (due : Due) → IsDueIndex deadlines entries
    → slice_get deadlines due.place ≡ Some (Some due.deadline) → IsRising due_order new → HasOneFewer entries due new
    → length new + 1 ≡ length entries → IsDueIndex (set deadlines due.place None) new
due_removed deadlines entries new due index at rising fewer count =
    let within = slice_get_within deadlines due.place (Some due.deadline) at in
    record {
      rising = rising;
      all = λ d. (
        λ held. let old = (fewer d).0 held in
            let there = (index.all d).0 old.0 in
            let other : d.place ≢ due.place = λ e.
            let both : Some (Some d.deadline) ≡ Some (Some due.deadline) = sym there ∙ ap (slice_get deadlines) e ∙ at in
            let same : d.deadline ≡ due.deadline = same_Some d.deadline due.deadline (same_Some (Some d.deadline) (Some due.deadline) both) in
            old.1 (due_same d due same e) in
            get_set_other deadlines due.place d.place None other ∙ there,
        λ e. elim (cases_eq d.place due.place) [
          | inl same ↦
              let here : Some None ≡ Some (Some d.deadline) = sym (get_set_same deadlines due.place None within) ∙ ap (slice_get (set deadlines due.place None)) (sym same) ∙ e in
              let no : None ≡ Some d.deadline = same_Some None (Some d.deadline) here in cc
          | inr other ↦ (fewer d).1 ((index.all d).1 (sym (get_set_other deadlines due.place d.place None other) ∙ e), λ one. other (ap (λ (x : Due). x.place) one))
        ],
      );
      few = let le = index.few in omega (arith, length-set {A = Option ℤ} deadlines due.place None);
    }

-- a row that is active with another deadline
pub due_moved : (deadlines : List (Option ℤ)) (entries between new : List Due) (due to : Due) → IsDueIndex deadlines entries
    → slice_get deadlines due.place ≡ Some (Some due.deadline) → to.place ≡ due.place → HasOneFewer entries due between
    → IsRising due_order new → HasOneMore between to new → length new ≡ length entries
    → IsDueIndex (set deadlines due.place (Some to.deadline)) new
due_moved deadlines entries between new due to index at place fewer rising more count =
    let within = slice_get_within deadlines due.place (Some due.deadline) at in
    record {
      rising = rising;
      all = λ d. (
        λ held. elim ((more d).0 held) [
          | inl mid ↦
              let old = (fewer d).0 mid in
              let there = (index.all d).0 old.0 in
              let other : d.place ≢ due.place = λ e.
              let both : Some (Some d.deadline) ≡ Some (Some due.deadline) = sym there ∙ ap (slice_get deadlines) e ∙ at in
              let same : d.deadline ≡ due.deadline = same_Some d.deadline due.deadline (same_Some (Some d.deadline) (Some due.deadline) both) in
              old.1 (due_same d due same e) in
              get_set_other deadlines due.place d.place (Some to.deadline) other ∙ there
          | inr e ↦ subst (λ (x : Due). slice_get (set deadlines due.place (Some to.deadline)) x.place ≡ Some (Some x.deadline)) (sym e)
              (subst (λ p. slice_get (set deadlines due.place (Some to.deadline)) p ≡ Some (Some to.deadline)) (sym place)
              (get_set_same deadlines due.place (Some to.deadline) within))
        ],
        λ e. (more d).1 (elim (cases_eq d.place due.place) [
          | inl same ↦
              let here : Some (Some to.deadline) ≡ Some (Some d.deadline) = sym (get_set_same deadlines due.place (Some to.deadline) within) ∙ ap (slice_get (set deadlines due.place (Some to.deadline))) (sym same) ∙ e in
              let deadline : d.deadline ≡ to.deadline = sym (same_Some to.deadline d.deadline (same_Some (Some to.deadline) (Some d.deadline) here)) in
              let where_ : d.place ≡ to.place = same ∙ sym place in
              inr (due_same d to deadline where_)
          | inr other ↦ inl ((fewer d).1 ((index.all d).1 (sym (get_set_other deadlines due.place d.place (Some to.deadline) other) ∙ e), λ one. other (ap (λ (x : Due). x.place) one)))
        ]),
      );
      few = let le = index.few in omega (arith, length-set {A = Option ℤ} deadlines due.place (Some to.deadline));
    }
