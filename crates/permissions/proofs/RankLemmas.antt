-- The realms by their ranks: walks over ranks are walks over places.
use Rattle.std.proofs.Common.{◌≡◌, ℕ, zero, suc, ◌+◌, ◌<◌, ◌≤◌, true, false, cond, List, [], ◌∷◌, ◌++◌, length, map, set, Option, Some, None, refl, sym, ap, subst, ◌∙◌, inl, inr, arith, eq-eqb, length-append, take, append_assoc, append-nil, get_or}
use Rattle.std.specs.Prelude.{◌==◌, is_some, unwrap_or, count_by}
use Rattle.std.proofs.lemmas.Bool.{cases_eq, eqb-true, or_cases, or_left, or_right}
use Rattle.std.proofs.lemmas.List.{get_or-set_same, get_or-set_other, get_or_append_left, length-set}
use Rattle.std.proofs.lemmas.List.Sums.{count_by-le-length, sum_by-set}
use Rattle.std.proofs.Math.Seq.{get_or-append_seam}
use Rattle.permissions.specs.Graph.{has, edges, IsWalkOn}
use Rattle.permissions.specs.Order.{IsLaid}
use Rattle.permissions.specs.Ranks.{AreRanked, IsFalling, place_at, rank_at}

-- numbers that a function maps

pub in_map : (f : ℕ → ℕ) (xs : List ℕ) (r : ℕ) → has r (map f xs) ≡ true → (q : ℕ) × (has q xs ≡ true) × (f q ≡ r)
in_map f [] r e = let no : false ≡ true = e in absurd cc
in_map f (x ∷ xs) r e = elim (or_cases (f x == r) (has r (map f xs)) e) [
  | inl here ↦ (x, or_left (x == x) (has x xs) (eq-eqb x x refl), eqb-true (f x) r here)
  | inr later ↦ let (q, there, is) = in_map f xs r later in (q, or_right (x == q) (has q xs) there, is)
]

pub map_has : (f : ℕ → ℕ) (xs : List ℕ) (q : ℕ) → has q xs ≡ true → has (f q) (map f xs) ≡ true
map_has f [] q e = let no : false ≡ true = e in absurd cc
map_has f (x ∷ xs) q e = elim (or_cases (x == q) (has q xs) e) [
  | inl here ↦ or_left (f x == f q) (has (f q) (map f xs)) (eq-eqb (f x) (f q) (ap f (eqb-true x q here)))
  | inr later ↦ or_right (f x == f q) (has (f q) (map f xs)) (map_has f xs q later)
]

first_has : (x : ℕ) (xs : List ℕ) → has x (x ∷ xs) ≡ true
first_has x xs = or_left (x == x) (has x xs) (eq-eqb x x refl)

rest_has : (q x : ℕ) (xs : List ℕ) → has q xs ≡ true → has q (x ∷ xs) ≡ true
rest_has q x xs e = or_right (x == q) (has q xs) e

map_same : (f g : ℕ → ℕ) (xs : List ℕ) → ((q : ℕ) → has q xs ≡ true → f q ≡ g q) → map f xs ≡ map g xs
map_same f g [] same = refl
map_same f g (x ∷ xs) same =
    ap (λ (y : ℕ). y ∷ map f xs) (same x (first_has x xs)) ∙ ap (λ (ys : List ℕ). g x ∷ ys) (map_same f g xs (λ q e. same q (rest_has q x xs e)))

map_back : (f g : ℕ → ℕ) (xs : List ℕ) → ((q : ℕ) → has q xs ≡ true → f (g q) ≡ q) → map f (map g xs) ≡ xs
map_back f g [] back = refl
map_back f g (x ∷ xs) back =
    ap (λ (y : ℕ). y ∷ map f (map g xs)) (back x (first_has x xs)) ∙ ap (λ (ys : List ℕ). x ∷ ys) (map_back f g xs (λ q e. back q (rest_has q x xs e)))

-- a place that leads on is one of the graph
pub edge_of_some : (graph : List (List ℕ)) (p q : ℕ) → has q (edges graph p) ≡ true → p < length graph
edge_of_some [] p q e = let no : false ≡ true = e in absurd cc
edge_of_some (es ∷ graph) zero q e = omega arith
edge_of_some (es ∷ graph) (suc p) q e = omega (arith, edge_of_some graph p q e)

pub some_of : (o : Option ℕ) → is_some o ≡ true → (r : ℕ) × (o ≡ Some r)
some_of None e = let no : false ≡ true = e in absurd cc
some_of (Some r) e = (r, refl)

pub none_of : (o : Option ℕ) → is_some o ≡ false → o ≡ None
none_of None e = refl
none_of (Some r) e = let no : true ≡ false = e in absurd cc

-- one place more has a rank

abbrev ranked_count : List (Option ℕ) → ℕ
ranked_count ranks = count_by (λ r. is_some r) ranks

count_one_more : (ranks : List (Option ℕ)) (place r : ℕ) → place < length ranks → rank_at ranks place ≡ None
    → ranked_count (set ranks place (Some r)) ≡ ranked_count ranks + 1
count_one_more ranks place r within none =
    let f : Option ℕ → ℕ = λ o. cond (is_some o) 1 0 in
    let both : ranked_count (set ranks place (Some r)) + f (rank_at ranks place) ≡ ranked_count ranks + 1 = sum_by-set f ranks place (Some r) None within in
    let free : f (rank_at ranks place) ≡ 0 = ap f none in
    omega (arith, both, free)

module _ (graph : List (List ℕ)) (ranks : List (Option ℕ)) (places : List ℕ) (rows : List (List ℕ)) (h : AreRanked graph ranks places rows) where
  leads_within : (rank q : ℕ) → has q (edges rows rank) ≡ true → rank < length places
  leads_within rank q e = omega (arith, h.rows_count, edge_of_some rows rank q e)

  -- a walk over ranks is one over their places
  pub over_places : (i : ℕ) (xs : List ℕ) (j : ℕ) → IsWalkOn rows i xs j → IsWalkOn graph (place_at places i) (map (place_at places) xs) (place_at places j)
  over_places i [] j w = ap (place_at places) w
  over_places i (x ∷ xs) j w = (
    subst (λ (es : List ℕ). has (place_at places x) es ≡ true) (h.same i (leads_within i x w.0)) (map_has (place_at places) (edges rows i) x w.0),
    over_places x xs j w.1,
  )

  -- and back
  pub over_ranks : (i : ℕ) → i < length places → (ys : List ℕ) (q : ℕ) → IsWalkOn graph (place_at places i) ys q
      → (j : ℕ) × (xs : List ℕ) × IsWalkOn rows i xs j × (j < length places) × (place_at places j ≡ q)
  over_ranks i within [] q w = (i, [], refl, within, w)
  over_ranks i within (y ∷ ys) q w =
      let (x, leads, is) = in_map (place_at places) (edges rows i) y (subst (λ (es : List ℕ). has y es ≡ true) (sym (h.same i within)) w.0) in
      let (j, xs, walk, low, end) = over_ranks x (omega (arith, h.falling i x leads, within)) ys q (subst (λ (p : ℕ). IsWalkOn graph p ys q) (sym is) w.1) in
      (j, x ∷ xs, (leads, walk), low, end)

  module _ (place : ℕ) (row : List ℕ) (within : place < length graph) (none : rank_at ranks place ≡ None)
      (known : (q : ℕ) → has q (edges graph place) ≡ true → is_some (rank_at ranks q) ≡ true)
      (row_is : row ≡ map (λ q. unwrap_or (rank_at ranks q) 0) (edges graph place)) where
    count_more : length (places ++ place ∷ []) ≡ length places + 1
    count_more = length-append places (place ∷ [])

    old_place : (rank : ℕ) → rank < length places → place_at (places ++ place ∷ []) rank ≡ place_at places rank
    old_place rank low = get_or_append_left places (place ∷ []) 0 rank low

    new_place : place_at (places ++ place ∷ []) (length places) ≡ place
    new_place = get_or-append_seam places place [] 0

    old_row : (rank : ℕ) → rank < length places → edges (rows ++ row ∷ []) rank ≡ edges rows rank
    old_row rank low = get_or_append_left rows (row ∷ []) [] rank (omega (arith, low, h.rows_count))

    new_row : edges (rows ++ row ∷ []) (length places) ≡ row
    new_row = subst (λ (n : ℕ). edges (rows ++ row ∷ []) n ≡ row) h.rows_count (get_or-append_seam rows row [] [])

    -- what the new place leads to has a rank
    ranked_before : (q : ℕ) → has q (edges graph place) ≡ true
        → (unwrap_or (rank_at ranks q) 0 < length places) × (place_at places (unwrap_or (rank_at ranks q) 0) ≡ q)
    ranked_before q e =
        let (r, is) = some_of (rank_at ranks q) (known q e) in
        let old = h.right q r is in
        let same : r ≡ unwrap_or (rank_at ranks q) 0 = sym (ap (λ (o : Option ℕ). unwrap_or o 0) is) in
        subst (λ (n : ℕ). (n < length places) × (place_at places n ≡ q)) same old

    right_more : (q rank : ℕ) → rank_at (set ranks place (Some (length places))) q ≡ Some rank
        → (rank < length (places ++ place ∷ [])) × (place_at (places ++ place ∷ []) rank ≡ q)
    right_more q rank e = elim (cases_eq q place) [
      | inl here ↦
          let there : rank_at (set ranks place (Some (length places))) place ≡ Some (length places) =
          get_or-set_same ranks place (Some (length places)) None (omega (arith, h.len, within)) in
          let is : Some (length places) ≡ Some rank = sym there ∙ ap (rank_at (set ranks place (Some (length places)))) (sym here) ∙ e in
          let same : length places ≡ rank = cc in
          (omega (arith, count_more, same), ap (place_at (places ++ place ∷ [])) (sym same) ∙ new_place ∙ sym here)
      | inr other ↦
          let old = h.right q rank (sym (get_or-set_other ranks place q (Some (length places)) None other) ∙ e) in
          (omega (arith, count_more, old.0), old_place rank old.0 ∙ old.1)
    ]

    same_more : (rank : ℕ) → rank < length (places ++ place ∷ [])
        → map (place_at (places ++ place ∷ [])) (edges (rows ++ row ∷ []) rank) ≡ edges graph (place_at (places ++ place ∷ []) rank)
    same_more rank low = elim (cases_eq rank (length places)) [
      | inl here ↦
          subst (λ (n : ℕ). map (place_at (places ++ place ∷ [])) (edges (rows ++ row ∷ []) n) ≡ edges graph (place_at (places ++ place ∷ []) n)) (sym here)
          (ap (map (place_at (places ++ place ∷ []))) (new_row ∙ row_is)
          ∙ map_back (place_at (places ++ place ∷ [])) (λ q. unwrap_or (rank_at ranks q) 0) (edges graph place)
          (λ q e. old_place (unwrap_or (rank_at ranks q) 0) (ranked_before q e).0 ∙ (ranked_before q e).1)
          ∙ ap (edges graph) (sym new_place))
      | inr other ↦
          let before : rank < length places = omega (arith, low, count_more, other) in
          ap (map (place_at (places ++ place ∷ []))) (old_row rank before)
          ∙ map_same (place_at (places ++ place ∷ [])) (place_at places) (edges rows rank)
          (λ q e. old_place q (omega (arith, h.falling rank q e, before)))
          ∙ h.same rank before ∙ ap (edges graph) (sym (old_place rank before))
    ]

    falling_more : IsFalling (rows ++ row ∷ [])
    falling_more rank q e =
        let there : rank < length (rows ++ row ∷ []) = edge_of_some (rows ++ row ∷ []) rank q e in
        elim (cases_eq rank (length places)) [
          | inl here ↦
              let at_row : has q row ≡ true =
              subst (λ (es : List ℕ). has q es ≡ true) (ap (edges (rows ++ row ∷ [])) here ∙ new_row) e in
              let (p, leads, is) = in_map (λ q. unwrap_or (rank_at ranks q) 0) (edges graph place) q (subst (λ (es : List ℕ). has q es ≡ true) row_is at_row) in
              let low : unwrap_or (rank_at ranks p) 0 < length places = (ranked_before p leads).0 in
              omega (arith, low, is, here)
          | inr other ↦
              let before : rank < length places = omega (arith, there, length-append rows (row ∷ []), h.rows_count, other) in
              h.falling rank q (subst (λ (es : List ℕ). has q es ≡ true) (old_row rank before) e)
        ]

    pub ranked_more : (ranks' : List (Option ℕ)) (places' : List ℕ) (rows' : List (List ℕ))
        → ranks' ≡ set ranks place (Some (length places)) → places' ≡ places ++ place ∷ [] → rows' ≡ rows ++ row ∷ [] → AreRanked graph ranks' places' rows'
    ranked_more ranks' places' rows' is_ranks is_places is_rows = rw (is_ranks, is_places, is_rows) (record {
      len = length-set ranks place (Some (length places)) ∙ h.len;
      count = count_one_more ranks place (length places) (omega (arith, h.len, within)) none ∙ ap (λ (n : ℕ). n + 1) h.count ∙ sym count_more;
      right = right_more;
      rows_count = length-append rows (row ∷ []) ∙ ap (λ (n : ℕ). n + 1) h.rows_count ∙ sym count_more;
      same = same_more;
      falling = falling_more;
    })

  -- a rank is less than the number of places
  pub few_ranks : length places ≤ length graph
  few_ranks = omega (arith, h.count, h.len, count_by-le-length (λ r. is_some r) ranks)

-- what a place of an order leads to stands before it
pub laid_at : (graph : List (List ℕ)) (before order : List ℕ) (i q : ℕ) → IsLaid graph before order → i < length order → has q (edges graph (get_or order i 0)) ≡ true → has q (before ++ take i order) ≡ true
laid_at graph before [] i q h within e = absurd (omega (arith, within))
laid_at graph before (x ∷ xs) zero q h within e = subst (λ ys. has q ys ≡ true) (sym (append-nil before)) (h.0 q e)
laid_at graph before (x ∷ xs) (suc i) q h within e =
    subst (λ ys. has q ys ≡ true) (append_assoc before (x ∷ []) (take i xs)) (laid_at graph (before ++ x ∷ []) xs i q h.1 (omega (arith, within)) e)
