-- An ask goes down over the ranks, and one for all goes up over them.
use Rattle.std.proofs.Common.{◌≡◌, ℕ, zero, suc, ◌+◌, ◌<◌, Bool, true, false, ◌||◌, List, [], ◌∷◌, ◌++◌, length, set, replicate, eq-eqb, refl, sym, ap, subst, ◌∙◌, inl, inr, arith}
use Rattle.std.specs.Prelude.{◌==◌, ◌⊎◌, ◌↔◌}
use Rattle.std.proofs.lemmas.Bool.{cases_Bool, cases_eq, eqb-true, or_cases, or_left, or_right}
use Rattle.std.proofs.lemmas.List.{get_or-set_same, get_or-set_other}
use Rattle.permissions.specs.Graph.{has, edges, IsWalkOn}
use Rattle.permissions.specs.Ranks.{IsFalling, IsBoundOn}
use Rattle.permissions.specs.Rights.{is_marked, IsLooked}
use Rattle.permissions.proofs.GraphLemmas.{walk-last}
use Rattle.permissions.proofs.RowLemmas.{differ}

-- a place that is marked is one of the marks
marked_within : (marks : List Bool) (q : ℕ) → is_marked marks q ≡ true → q < length marks
marked_within [] q e = let no : false ≡ true = e in absurd cc
marked_within (m ∷ ms) zero e = omega arith
marked_within (m ∷ ms) (suc q) e = omega (arith, marked_within ms q e)

-- one rank more is looked at

module _ (rows : List (List ℕ)) (bound : ℕ → Bool) (start left : ℕ) (marks : List Bool) (h : IsLooked rows bound start (left + 1) marks) where
  -- one that isn't marked
  pub looked_past : is_marked marks left ≡ false → IsLooked rows bound start left marks
  looked_past not = record {
    reached = h.reached;
    begun = h.begun;
    settled = λ q m. elim (h.settled q m) [
      | inl low ↦ elim (cases_eq q left) [
        | inl e ↦ let no : true ≡ false = sym m ∙ ap (is_marked marks) e ∙ not in absurd cc
        | inr other ↦ inl (omega (arith, low, other))
      ]
      | inr done ↦ inr done
    ];
  }

  -- one that is, and marks what it leads to
  looked_at : (after : List Bool) → IsFalling rows → is_marked marks left ≡ true → bound left ≡ false
      → ((q : ℕ) → is_marked after q ≡ true → (is_marked marks q ≡ true) ⊎ (has q (edges rows left) ≡ true))
      → ((q : ℕ) → is_marked marks q ≡ true → is_marked after q ≡ true) → ((q : ℕ) → has q (edges rows left) ≡ true → is_marked after q ≡ true)
      → IsLooked rows bound start left after
  looked_at after falling marked free from kept led = record {
    reached = λ q m. elim (from q m) [
      | inl old ↦ h.reached q old
      | inr leads ↦ let way = h.reached left marked in (way.0 ++ q ∷ [], walk-last rows start way.0 left q way.1 leads)
    ];
    begun = kept start h.begun;
    settled = λ q m. elim (from q m) [
      | inl old ↦ elim (h.settled q old) [
        | inl low ↦ elim (cases_eq q left) [
          | inl e ↦ inr (ap bound e ∙ free, λ r leads. led r (subst (λ (p : ℕ). has r (edges rows p) ≡ true) e leads))
          | inr other ↦ inl (omega (arith, low, other))
        ]
        | inr done ↦ inr (done.0, λ r leads. kept r (done.1 r leads))
      ]
      | inr leads ↦ inl (falling left q leads)
    ];
  }

  pub looked_on : (after : List Bool) (places : List ℕ) → IsFalling rows → left < length marks → length after ≡ length marks → places ≡ edges rows left
      → ((q : ℕ) → q < length marks → is_marked after q ≡ (is_marked marks q || has q places)) → is_marked marks left ≡ true → bound left ≡ false
      → IsLooked rows bound start left after
  looked_on after places falling within len are set marked free =
      looked_at after falling marked free
      (λ q m.
      let low : q < length marks = omega (arith, len, marked_within after q m) in
      elim (or_cases (is_marked marks q) (has q places) (sym (set q low) ∙ m)) [ inl old ↦ inl old | inr new ↦ inr (sym (ap (has q) are) ∙ new) ])
      (λ q m. set q (marked_within marks q m) ∙ or_left (is_marked marks q) (has q places) m)
      (λ q leads. set q (omega (arith, falling left q leads, within)) ∙ or_right (is_marked marks q) (has q places) (ap (has q) are ∙ leads))

-- at first the start alone is marked
pub looked_first : (rows : List (List ℕ)) (bound : ℕ → Bool) (start : ℕ) (marks : List Bool) → ((q : ℕ) → is_marked marks q ≡ (start == q)) → IsLooked rows bound start (start + 1) marks
looked_first rows bound start marks only = record {
  reached = λ q m. ([], eqb-true start q (sym (only q) ∙ m));
  begun = only start ∙ eq-eqb start start refl;
  settled = λ q m. let same : start ≡ q = eqb-true start q (sym (only q) ∙ m) in inl (omega (arith, same));
}

-- the end

walk_marked : (rows : List (List ℕ)) (bound : ℕ → Bool) (start : ℕ) (marks : List Bool) → IsLooked rows bound start 0 marks
    → (x : ℕ) (xs : List ℕ) (q : ℕ) → is_marked marks x ≡ true → IsWalkOn rows x xs q → is_marked marks q ≡ true
walk_marked rows bound start marks h x [] q m w = subst (λ (y : ℕ). is_marked marks y ≡ true) w m
walk_marked rows bound start marks h x (y ∷ ys) q m w = elim (h.settled x m) [
  | inl low ↦ absurd (omega (arith, low))
  | inr done ↦ walk_marked rows bound start marks h y ys q (done.1 y w.0) w.1
]

pub none_bound : (rows : List (List ℕ)) (bound : ℕ → Bool) (start : ℕ) (marks : List Bool) → IsLooked rows bound start 0 marks → IsBoundOn rows bound start → ⊥
none_bound rows bound start marks h w = elim (h.settled w.to (walk_marked rows bound start marks h start w.path w.to h.begun w.walk)) [
  | inl low ↦ omega (arith, low)
  | inr done ↦ let no : false ≡ true = sym done.0 ∙ w.is in cc
]

pub one_bound : (rows : List (List ℕ)) (bound : ℕ → Bool) (start left q : ℕ) (marks : List Bool) → IsLooked rows bound start left marks → is_marked marks q ≡ true
    → bound q ≡ true → IsBoundOn rows bound start
one_bound rows bound start left q marks h m e = let way = h.reached q m in record { to = q; path = way.0; walk = way.1; is = e }

-- a rank that leads nowhere

pub none_in : (xs : List ℕ) → (length xs == 0) ≡ true → xs ≡ []
none_in [] e = refl
none_in (x ∷ xs) e = let none : length (x ∷ xs) ≡ 0 = eqb-true (length (x ∷ xs)) 0 e in absurd (omega (arith, none))

pub bound_here : (rows : List (List ℕ)) (bound : ℕ → Bool) (start : ℕ) (b : Bool) → edges rows start ≡ [] → b ≡ bound start → (b ≡ true) ↔ IsBoundOn rows bound start
bound_here rows bound start b nowhere e = (
  λ yes. record { to = start; path = []; walk = refl; is = sym e ∙ yes },
  λ w. on_path w.path w.to w.walk w.is,
) where
  on_path : (path : List ℕ) (to : ℕ) → IsWalkOn rows start path to → bound to ≡ true → b ≡ true
  on_path [] to walk is = e ∙ ap bound walk ∙ is
  on_path (x ∷ xs) to walk is = let no : false ≡ true = sym (ap (has x) nowhere) ∙ walk.0 in absurd cc

-- marks

pub none_marked : (n q : ℕ) → is_marked (replicate n false) q ≡ false
none_marked zero q = refl
none_marked (suc n) zero = refl
none_marked (suc n) (suc q) = none_marked n q

pub one_marked : (marks : List Bool) (start : ℕ) → ((q : ℕ) → is_marked marks q ≡ false) → start < length marks → (q : ℕ) → is_marked (set marks start true) q ≡ (start == q)
one_marked marks start none within q = elim (cases_Bool (start == q)) [
  | inl e ↦ subst (λ (i : ℕ). is_marked (set marks start true) i ≡ true) (eqb-true start q e) (get_or-set_same marks start true false within) ∙ sym e
  | inr e ↦ get_or-set_other marks start q true false (λ h. differ start q e (sym h)) ∙ none q ∙ sym e
]
