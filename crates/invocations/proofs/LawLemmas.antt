-- What is found has one place.
use Rattle.std.proofs.Common.{◌≡◌, ◌<◌, ℕ, ℤ, ◌≤ℤ◌, ◌<ℤ◌, List, Some, None, get_or, take, length, refl, ap, subst, ◌∙◌, inl, inr, arith}
use Rattle.std.specs.List.{All, slice_get}
use Rattle.std.proofs.lemmas.Bool.{cases_eq, cases_lt}
use Rattle.std.proofs.lemmas.Int.{ints}
use Rattle.std.proofs.lemmas.List.{get_or-take, length-take-le}
use Rattle.std.proofs.lemmas.Option.{get_or_from_slice_get, slice_get_within}
use Rattle.invocations.specs.declared.invocation.Invocation.{Invocation}
use Rattle.invocations.specs.Due.{IsDue, IsNextDue}
use Rattle.invocations.specs.Laws.{FindsOnePlace, HasOneNext}
use Rattle.invocations.specs.Rows.{HasId, IsPlaceOf, ids_of}

has_id : (rows : List Invocation) (id : List ℕ) (p : ℕ) → IsPlaceOf rows id p → HasId rows id
has_id rows id p e = (p, slice_get_within (ids_of rows) p id e, get_or_from_slice_get (ids_of rows) p id id e)

pub one_place : FindsOnePlace
one_place rows id None None unique first second = refl
one_place rows id None (Some q) unique first second = absurd (first (has_id rows id q second))
one_place rows id (Some p) None unique first second = absurd (second (has_id rows id p first))
one_place rows id (Some p) (Some q) unique first second = ap (λ n. Some n) (unique id p q first second)

stands_so : (P : Invocation → Type 0) (rows : List Invocation) (p : ℕ) (row : Invocation) → All P rows → slice_get rows p ≡ Some row → P row
stands_so P rows p row all e = subst P (get_or_from_slice_get rows p row row e) (all p row (slice_get_within rows p row e))

-- a row before the next one that is due isn't due as early
none_before : (rows : List Invocation) (moment : ℤ) (p q : ℕ) (row other : Invocation) → IsNextDue rows moment p row → IsNextDue rows moment q other
    → p < q → row.deadline ≤ℤ other.deadline → ⊥
none_before rows moment p q row other h k low le =
    let there : q < length rows = slice_get_within rows q other k.stands in
    let within : p < length (take q rows) = omega (arith, low, length-take-le q rows (omega (arith, there))) in
    let is : get_or (take q rows) p row ≡ row = get_or-take q rows p row low ∙ get_or_from_slice_get rows p row row h.stands in
    let later : other.deadline <ℤ row.deadline = subst (λ r. IsDue moment r → other.deadline <ℤ r.deadline) is (k.first p row within) h.due in
    omega (arith, ints, later, le)

least_of : (rows : List Invocation) (moment : ℤ) (p q : ℕ) (row other : Invocation) → IsNextDue rows moment p row → IsNextDue rows moment q other
    → row.deadline ≤ℤ other.deadline
least_of rows moment p q row other h k = stands_so (λ r. IsDue moment r → row.deadline ≤ℤ r.deadline) rows q other h.least k.stands k.due

one_of_two : (rows : List Invocation) (moment : ℤ) (p q : ℕ) (row other : Invocation) → IsNextDue rows moment p row → IsNextDue rows moment q other → p ≡ q
one_of_two rows moment p q row other h k =
    elim (cases_eq p q) [
      | inl same ↦ same
      | inr not ↦ elim (cases_lt p q) [
        | inl low ↦ absurd (none_before rows moment p q row other h k low (least_of rows moment p q row other h k))
        | inr high ↦ absurd (none_before rows moment q p other row k h (omega (arith, not, high)) (least_of rows moment q p other row k h))
      ]
    ]

none_due : (rows : List Invocation) (moment : ℤ) (p : ℕ) (row : Invocation) → All (λ r. ¬ IsDue moment r) rows → IsNextDue rows moment p row → ⊥
none_due rows moment p row none h = stands_so (λ r. ¬ IsDue moment r) rows p row none h.stands h.due

pub one_next : HasOneNext
one_next rows moment None None first second = refl
one_next rows moment None (Some q) first second = absurd (none_due rows moment q second.0 first second.1)
one_next rows moment (Some p) None first second = absurd (none_due rows moment p first.0 second first.1)
one_next rows moment (Some p) (Some q) first second = ap (λ n. Some n) (one_of_two rows moment p q first.0 second.0 first.1 second.1)
