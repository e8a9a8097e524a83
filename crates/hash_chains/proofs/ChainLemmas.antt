-- Chains with a place more.
use Rattle.std.proofs.Common.{◌≡◌, ◌≢◌, ◌⊎◌, ◌<◌, ◌≤◌, ◌+◌, ℕ, zero, suc, List, [], ◌∷◌, ◌++◌, length, cond, eqb, Option, Some, None, refl, sym, ap, ◌∙◌, subst, inl, inr, arith}
use Rattle.std.specs.List.{slice_get}
use Rattle.std.proofs.lemmas.Bool.{cases_eq, eq-eqb, ne_eqb, cond-true, cond-false}
use Rattle.std.proofs.lemmas.List.{length_push}
use Rattle.std.proofs.lemmas.Option.{same_Some, slice_get_within}
use Rattle.hash_chains.specs.Chains.{IsChained, IsLast}

-- what stands at a place of a list with one value more
at_place : {X : Type 0} (xs : List X) (x y : X) (i : ℕ) → slice_get (xs ++ x ∷ []) i ≡ Some y
    → (slice_get xs i ≡ Some y) ⊎ ((i ≡ length xs) × (x ≡ y))
at_place [] x y zero e = inr (refl, same_Some x y e)
at_place [] x y (suc i) e = let no : None ≡ Some y = e in cc
at_place (z ∷ zs) x y zero e = inl e
at_place (z ∷ zs) x y (suc i) e =
    elim (at_place zs x y i e) [ inl h ↦ inl h | inr h ↦ inr (ap suc h.0, h.1) ]

at_front : (xs : List ℕ) (x i : ℕ) → i < length xs → slice_get (xs ++ x ∷ []) i ≡ slice_get xs i
at_front [] x i within = absurd (omega arith)
at_front (y ∷ ys) x zero within = refl
at_front (y ∷ ys) x (suc i) within = at_front ys x i (omega arith)

at_end : (xs : List ℕ) (x : ℕ) → slice_get (xs ++ x ∷ []) (length xs) ≡ Some x
at_end [] x = refl
at_end (y ∷ ys) x = at_end ys x

-- a hash more, behind the end
last_front : (xs : List ℕ) (x end hash : ℕ) (found : Option ℕ) → end ≤ length xs → IsLast xs end hash found
    → IsLast (xs ++ x ∷ []) end hash found
last_front xs x end hash None within h = λ place below e. h place below (sym (at_front xs x place (omega arith)) ∙ e)
last_front xs x end hash (Some last) within h = (
  h.0,
  (let low = h.0 in at_front xs x last (omega arith)) ∙ h.1,
  λ place low below e. h.2 place low below (sym (at_front xs x place (omega arith)) ∙ e),
)

-- a hash more, before the end
last_own : (xs : List ℕ) (x : ℕ) → IsLast (xs ++ x ∷ []) (length xs + 1) x (Some (length xs))
last_own xs x = (omega arith, at_end xs x, λ place low below e. absurd (omega arith))

last_other : (xs : List ℕ) (x hash : ℕ) (found : Option ℕ) → hash ≢ x → IsLast xs (length xs) hash found
    → IsLast (xs ++ x ∷ []) (length xs + 1) hash found
last_other xs x hash None other h = λ place below e.
    elim (at_place xs x hash place e) [
      | inl old ↦ h place (slice_get_within xs place hash old) old
      | inr end ↦ other (sym end.1)
    ]
last_other xs x hash (Some last) other h = (
  (let low = h.0 in omega arith),
  at_front xs x last h.0 ∙ h.1,
  λ place low below e. elim (at_place xs x hash place e) [
    | inl old ↦ h.2 place low (slice_get_within xs place hash old) old
    | inr end ↦ other (sym end.1)
  ],
)

pub chained_none : (latest : ℕ → Option ℕ) → ((hash : ℕ) → latest hash ≡ None) → IsChained [] latest []
chained_none latest none = record {
  lasts = λ hash. subst (λ o. IsLast [] 0 hash o) (sym (none hash)) (λ place below e. absurd (omega arith));
  links = λ place hash before e f. let no : None ≡ Some hash = e in cc;
  count = refl;
}

-- the same places, kept in another order
pub chained_again : (hashes : List ℕ) (old new : ℕ → Option ℕ) (earlier : List (Option ℕ)) → ((hash : ℕ) → new hash ≡ old hash)
    → IsChained hashes old earlier → IsChained hashes new earlier
chained_again hashes old new earlier same chained = record {
  lasts = λ hash. subst (λ o. IsLast hashes (length hashes) hash o) (sym (same hash)) (chained.lasts hash);
  links = chained.links;
  count = chained.count;
}

latest_push : (hashes : List ℕ) (own hash : ℕ) (found : Option ℕ) → IsLast hashes (length hashes) hash found
    → IsLast (hashes ++ own ∷ []) (length hashes + 1) hash (cond (eqb own hash) (Some (length hashes)) found)
latest_push hashes own hash found h = elim (cases_eq own hash) [
  | inl same ↦ subst (λ o. IsLast (hashes ++ own ∷ []) (length hashes + 1) hash o)
      (sym (cond-true (eqb own hash) (Some (length hashes)) found (eq-eqb own hash same)))
      (subst (λ x. IsLast (hashes ++ own ∷ []) (length hashes + 1) x (Some (length hashes))) same (last_own hashes own))
  | inr other ↦ subst (λ o. IsLast (hashes ++ own ∷ []) (length hashes + 1) hash o)
      (sym (cond-false (eqb own hash) (Some (length hashes)) found (ne_eqb own hash other)))
      (last_other hashes own hash found (λ e. other (sym e)) h)
]

earlier_push : (hashes : List ℕ) (own : ℕ) (latest : ℕ → Option ℕ) (earlier : List (Option ℕ)) (place hash : ℕ) (before : Option ℕ)
    → IsChained hashes latest earlier → slice_get (hashes ++ own ∷ []) place ≡ Some hash
    → slice_get (earlier ++ latest own ∷ []) place ≡ Some before → IsLast (hashes ++ own ∷ []) place hash before
earlier_push hashes own latest earlier place hash before chained at was =
    elim (at_place earlier (latest own) before place was) [
      | inl there ↦
          let low : place < length hashes = omega (arith, slice_get_within earlier place before there, chained.count) in
          last_front hashes own place hash before (omega (arith, low))
          (chained.links place hash before (sym (at_front hashes own place low) ∙ at) there)
      | inr new ↦
          let stop : length hashes ≡ place = omega (arith, new.0, chained.count) in
          let same : own ≡ hash = same_Some own hash (sym (at_end hashes own) ∙ ap (λ n. slice_get (hashes ++ own ∷ []) n) stop ∙ at) in
          last_front hashes own place hash before (omega (arith, stop))
          (subst (λ n. IsLast hashes n hash before) stop
          (subst (λ x. IsLast hashes (length hashes) x before) same
          (subst (λ o. IsLast hashes (length hashes) own o) new.1 (chained.lasts own))))
    ]

-- a place more
pub chained_push : (hashes : List ℕ) (own : ℕ) (old new : ℕ → Option ℕ) (earlier : List (Option ℕ)) → IsChained hashes old earlier
    → ((hash : ℕ) → new hash ≡ cond (eqb own hash) (Some (length hashes)) (old hash))
    → IsChained (hashes ++ own ∷ []) new (earlier ++ old own ∷ [])
chained_push hashes own old new earlier chained latest = record {
  lasts = λ hash. subst (λ n. IsLast (hashes ++ own ∷ []) n hash (new hash)) (sym (length_push hashes own))
      (subst (λ o. IsLast (hashes ++ own ∷ []) (length hashes + 1) hash o) (sym (latest hash))
      (latest_push hashes own hash (old hash) (chained.lasts hash)));
  links = λ place hash before at was. earlier_push hashes own old earlier place hash before chained at was;
  count = length_push earlier (old own) ∙ ap (λ n. n + 1) chained.count ∙ sym (length_push hashes own);
}
