-- A walk that finds an order, step by step.
use Rattle.std.proofs.Common.{◌≡◌, ℕ, zero, suc, ◌+◌, ◌-◌, ◌<◌, ◌≤◌, Bool, true, false, ◌||◌, List, [], ◌∷◌, ◌++◌, length, take, get_or, set, refl, sym, ap, subst, ◌∙◌, inl, inr, arith, append_assoc, append-nil, length-set, eq-eqb, ltb, take_all, if◌then◌else◌}
use Rattle.std.specs.Prelude.{◌==◌, ◌⊎◌}
use Rattle.std.proofs.lemmas.Bool.{cases_Bool, eqb-true, ltb-true, or_cases, or_left, or_right}
use Rattle.std.proofs.lemmas.List.{get_or-set_same, get_or-set_other, take_more, take_all, get_or_default}
use Rattle.policy_reading.specs.declared.order.Frame.{Frame}
use Rattle.policy_reading.specs.declared.order.Mark.{Mark}
use Rattle.policy_reading.specs.declared.order.Mark.TheVariants.{Unseen, Open, Done}
use Rattle.permissions.specs.Graph.{has, edges, IsGraph, ReachesOn}
use Rattle.policy_reading.specs.Walked.{LeadsBack, places_of, IsPath, mark_of, mark_at, is_unseen, IsWalked, frames_left, unseen_left, steps_left}
use Rattle.permissions.specs.Order.{IsLaid}
use Rattle.permissions.proofs.GraphLemmas.{has_of, reaches_on}
use Rattle.permissions.proofs.RowLemmas.{differ}

or_assoc : (a b c : Bool) → (a || (b || c)) ≡ ((a || b) || c)
or_assoc true b c = refl
or_assoc false b c = refl

or_false : (a : Bool) → (a || false) ≡ a
or_false true = refl
or_false false = refl

-- one more at the end
pub has_snoc : (q p : ℕ) (xs : List ℕ) → has q (xs ++ p ∷ []) ≡ (has q xs || (p == q))
has_snoc q p [] = or_false (p == q)
has_snoc q p (x ∷ xs) = ap (λ b. (x == q) || b) (has_snoc q p xs) ∙ or_assoc (x == q) (has q xs) (p == q)

on_snoc : (q : ℕ) (f : Frame) (fs : List Frame) → has q (places_of (fs ++ f ∷ [])) ≡ (has q (places_of fs) || (f.place == q))
on_snoc q f [] = or_false (f.place == q)
on_snoc q f (e ∷ fs) = ap (λ b. (e.place == q) || b) (on_snoc q f fs) ∙ or_assoc (e.place == q) (has q (places_of fs)) (f.place == q)

has_here : (q p : ℕ) (xs : List ℕ) → (p == q) ≡ true → has q (xs ++ p ∷ []) ≡ true
has_here q p xs e = has_snoc q p xs ∙ or_right (has q xs) (p == q) e

pub has_before : (q p : ℕ) (xs : List ℕ) → has q xs ≡ true → has q (xs ++ p ∷ []) ≡ true
has_before q p xs e = has_snoc q p xs ∙ or_left (has q xs) (p == q) e

has_other : (q p : ℕ) (xs : List ℕ) → (p == q) ≡ false → has q (xs ++ p ∷ []) ≡ has q xs
has_other q p xs e = has_snoc q p xs ∙ ap (λ b. has q xs || b) e ∙ or_false (has q xs)

on_here : (q : ℕ) (f : Frame) (fs : List Frame) → (f.place == q) ≡ true → has q (places_of (fs ++ f ∷ [])) ≡ true
on_here q f fs e = on_snoc q f fs ∙ or_right (has q (places_of fs)) (f.place == q) e

on_before : (q : ℕ) (f : Frame) (fs : List Frame) → has q (places_of fs) ≡ true → has q (places_of (fs ++ f ∷ [])) ≡ true
on_before q f fs e = on_snoc q f fs ∙ or_left (has q (places_of fs)) (f.place == q) e

on_other : (q : ℕ) (f : Frame) (fs : List Frame) → (f.place == q) ≡ false → has q (places_of (fs ++ f ∷ [])) ≡ has q (places_of fs)
on_other q f fs e = on_snoc q f fs ∙ ap (λ b. has q (places_of fs) || b) e ∙ or_false (has q (places_of fs))

is_itself : (n : ℕ) → (n == n) ≡ true
is_itself n = eq-eqb n n refl

-- the order

laid_more : (graph : List (List ℕ)) (before order : List ℕ) (p : ℕ) → IsLaid graph before order → ((q : ℕ) → has q (edges graph p) ≡ true → has q (before ++ order) ≡ true) → IsLaid graph before (order ++ p ∷ [])
laid_more graph before [] p h all = (λ q e. subst (λ xs. has q xs ≡ true) (append-nil before) (all q e), tt)
laid_more graph before (x ∷ xs) p h all =
    (h.0, laid_more graph (before ++ x ∷ []) xs p h.1 (λ q e. subst (λ ys. has q ys ≡ true) (sym (append_assoc before (x ∷ []) xs)) (all q e)))

-- the path

abbrev pub next_frame : Frame → Frame
next_frame f = record { place = f.place; followed = f.followed + 1 }

-- what one edge more leads to
one_edge_more : (es : List ℕ) (i q : ℕ) → i < length es → has q (take (i + 1) es) ≡ true → (has q (take i es) ≡ true) ⊎ (q ≡ get_or es i 0)
one_edge_more es i q within e =
    elim (or_cases _ _ (sym (has_snoc q (get_or es i 0) (take i es)) ∙ (sym (ap (has q) (take_more es i 0 within)) ∙ e))) [
      | inl before ↦ inl before
      | inr here ↦ inr (sym (eqb-true (get_or es i 0) q here))
    ]

module _ (graph : List (List ℕ)) (order : List ℕ) (f : Frame) where
  abbrev es : List ℕ
  es = edges graph f.place

  followed_done : f.followed < length es → has (get_or es f.followed 0) order ≡ true → ((q : ℕ) → has q (take f.followed es) ≡ true → has q order ≡ true)
      → (q : ℕ) → has q (take (f.followed + 1) es) ≡ true → has q order ≡ true
  followed_done within there before q e =
      elim (one_edge_more es f.followed q within e) [ inl b ↦ before q b | inr is ↦ subst (λ p. has p order ≡ true) (sym is) there ]

  pub path_on : (fs : List Frame) → IsPath graph order (fs ++ f ∷ []) → f.followed < length es → has (get_or es f.followed 0) order ≡ true → IsPath graph order (fs ++ next_frame f ∷ [])
  path_on [] h within there = followed_done within there h
  path_on (e ∷ []) h within there = (h.0, h.1, path_on [] h.2 within there)
  path_on (e ∷ g ∷ fs) h within there = (h.0, h.1, path_on (g ∷ fs) h.2 within there)

  pub path_enter : (fs : List Frame) → IsPath graph order (fs ++ f ∷ []) → f.followed < length es
      → IsPath graph order ((fs ++ next_frame f ∷ []) ++ record { place = get_or es f.followed 0; followed = 0 } ∷ [])
  path_enter [] h within = (
    λ q e. elim (one_edge_more es f.followed q within e) [ inl b ↦ inl (h q b) | inr is ↦ inr is ],
    has_of es f.followed within,
    λ q e. let no : false ≡ true = e in absurd cc,
  )
  path_enter (e ∷ []) h within = (h.0, h.1, path_enter [] h.2 within)
  path_enter (e ∷ g ∷ fs) h within = (h.0, h.1, path_enter (g ∷ fs) h.2 within)

  pub path_leave : (fs : List Frame) → IsPath graph order (fs ++ f ∷ []) → IsPath graph (order ++ f.place ∷ []) fs
  path_leave [] h = tt
  path_leave (e ∷ []) h = λ q there. elim (h.0 q there) [
    | inl in_order ↦ has_before q f.place order in_order
    | inr is ↦ has_here q f.place order (subst (λ p. (f.place == p) ≡ true) (sym is) (is_itself f.place))
  ]
  path_leave (e ∷ g ∷ fs) h = (
    λ q there. elim (h.0 q there) [ inl in_order ↦ inl (has_before q f.place order in_order) | inr is ↦ inr is ],
    h.1,
    path_leave (g ∷ fs) h.2,
  )

  pub last_passed : (fs : List Frame) → IsPath graph order (fs ++ f ∷ []) → (q : ℕ) → has q (take f.followed es) ≡ true → has q order ≡ true
  last_passed [] h = h
  last_passed (e ∷ []) h = h.2
  last_passed (e ∷ g ∷ fs) h = last_passed (g ∷ fs) h.2

  step_first : (p q : ℕ) → has q (edges graph p) ≡ true → (q ≡ f.place) ⊎ ReachesOn graph q f.place → ReachesOn graph p f.place
  step_first p q there (inl is) = record { first = q; others = []; walk = (there, is) }
  step_first p q there (inr on) = record { first = q; others = on.first ∷ on.others; walk = (there, on.walk) }

  reaches_last : (fs : List Frame) → IsPath graph order (fs ++ f ∷ []) → (q : ℕ) → has q (places_of (fs ++ f ∷ [])) ≡ true → (q ≡ f.place) ⊎ ReachesOn graph q f.place
  reaches_last [] h q on = inl (sym (eqb-true f.place q (sym (or_false (f.place == q)) ∙ on)))
  reaches_last (e ∷ []) h q on = elim (or_cases (e.place == q) _ on) [
    | inl here ↦ inr (subst (λ p. ReachesOn graph p f.place) (eqb-true e.place q here) (step_first e.place f.place h.1 (inl refl)))
    | inr later ↦ reaches_last [] h.2 q later
  ]
  reaches_last (e ∷ g ∷ fs) h q on = elim (or_cases (e.place == q) _ on) [
    | inl here ↦
        let next = reaches_last (g ∷ fs) h.2 g.place (or_left (g.place == g.place) _ (is_itself g.place)) in
        inr (subst (λ p. ReachesOn graph p f.place) (eqb-true e.place q here) (step_first e.place g.place h.1 next))
    | inr later ↦ reaches_last (g ∷ fs) h.2 q later
  ]

  -- an edge to a place of the path leads back
  pub leads_back : (fs : List Frame) → IsPath graph order (fs ++ f ∷ []) → (to : ℕ) → has to es ≡ true → has to (places_of (fs ++ f ∷ [])) ≡ true → LeadsBack graph
  leads_back fs h to edge on = elim (reaches_last fs h to on) [
    | inl is ↦ record { place = to; itself = record { first = to; others = []; walk = (subst (λ p. has to (edges graph p) ≡ true) (sym is) edge, refl) } }
    | inr reaches ↦ record { place = to; itself = reaches_on graph to f.place to reaches edge }
  ]

same_places : (fs : List Frame) (f : Frame) → places_of (fs ++ next_frame f ∷ []) ≡ places_of (fs ++ f ∷ [])
same_places [] f = refl
same_places (e ∷ fs) f = ap (λ ps. e.place ∷ ps) (same_places fs f)

-- marks

marked_done : (on in_order : Bool) → mark_of on in_order ≡ Done → in_order ≡ true
marked_done on true e = refl
marked_done true false e = absurd cc
marked_done false false e = absurd cc

marked_open : (on in_order : Bool) → mark_of on in_order ≡ Open → on ≡ true
marked_open true in_order e = refl
marked_open false true e = absurd cc
marked_open false false e = absurd cc

marked_unseen : (on in_order : Bool) → mark_of on in_order ≡ Unseen → in_order ≡ false
marked_unseen on false e = refl
marked_unseen on true e = absurd cc

seen_on_path : (on in_order : Bool) → on ≡ true → is_unseen (mark_of on in_order) ≡ false
seen_on_path true true e = refl
seen_on_path true false e = refl
seen_on_path false in_order e = absurd cc

module _ (graph : List (List ℕ)) (marks : List Mark) (order : List ℕ) where
  -- a place is left
  pub walked_back : (fs : List Frame) (f : Frame) → IsWalked graph marks (fs ++ f ∷ []) order → length (edges graph f.place) ≤ f.followed
      → IsWalked graph (set marks f.place Done) fs (order ++ f.place ∷ [])
  walked_back fs f h all = record {
    count = length-set marks f.place Done ∙ h.count;
    marked = λ q below. elim (cases_Bool (f.place == q)) [
      | inl here ↦
          let same = eqb-true f.place q here in
          subst (λ p. mark_at (set marks f.place Done) p ≡ mark_of (has p (places_of fs)) (has p (order ++ f.place ∷ []))) same
          (get_or-set_same marks f.place Done Unseen (subst (λ n. f.place < n) (sym h.count) (subst (λ p. p < length graph) (sym same) below))
          ∙ ap (mark_of (has f.place (places_of fs))) (sym (has_here f.place f.place order (is_itself f.place))))
      | inr other ↦
          get_or-set_other marks f.place q Done Unseen (λ s. differ f.place q other (sym s)) ∙ h.marked q below
          ∙ ap (λ b. mark_of b (has q order)) (on_other q f fs other) ∙ ap (mark_of (has q (places_of fs))) (sym (has_other q f.place order other))
    ];
    within = λ q on. h.within q (on_before q f fs on);
    linked = path_leave graph order f fs h.linked;
    laid = laid_more graph [] order f.place h.laid
        (λ q e. last_passed graph order f fs h.linked q (subst (λ xs. has q xs ≡ true) (sym (take_all f.followed (edges graph f.place) all)) e));
    known = λ q there. elim (or_cases _ _ (sym (has_snoc q f.place order) ∙ there)) [
      | inl before ↦ h.known q before
      | inr here ↦ subst (λ p. p < length graph) (eqb-true f.place q here) (h.within f.place (on_here f.place f fs (is_itself f.place)))
    ];
  }

  -- an edge to a place of the order is followed
  pub walked_on : (fs : List Frame) (f : Frame) → IsWalked graph marks (fs ++ f ∷ []) order → f.followed < length (edges graph f.place) → IsGraph graph
      → mark_at marks (get_or (edges graph f.place) f.followed 0) ≡ Done → IsWalked graph marks (fs ++ next_frame f ∷ []) order
  walked_on fs f h within is done =
      let to = get_or (edges graph f.place) f.followed 0 in
      let below : to < length graph = is f.place to (has_of (edges graph f.place) f.followed within) in
      let there : has to order ≡ true = marked_done _ _ (sym (h.marked to below) ∙ done) in
      record {
        count = h.count;
        marked = λ q b. h.marked q b ∙ ap (λ ps. mark_of (has q ps) (has q order)) (sym (same_places fs f));
        within = λ q on. h.within q (subst (λ ps. has q ps ≡ true) (same_places fs f) on);
        linked = path_on graph order f fs h.linked within there;
        laid = h.laid;
        known = h.known;
      }

  -- a place is entered
  pub walked_in : (path : List Frame) (f : Frame) (to : ℕ) → ((q : ℕ) → q < length graph → mark_at marks q ≡ mark_of (has q (places_of path)) (has q order))
      → ((q : ℕ) → has q (places_of path) ≡ true → q < length graph) → length marks ≡ length graph → to < length graph → f.place ≡ to → mark_at marks to ≡ Unseen
      → IsPath graph order (path ++ f ∷ []) → IsLaid graph [] order → ((q : ℕ) → has q order ≡ true → q < length graph) → IsWalked graph (set marks to Open) (path ++ f ∷ []) order
  walked_in path f to marked within count below is unseen linked laid known = record {
    count = length-set marks to Open ∙ count;
    marked = λ q b. elim (cases_Bool (to == q)) [
      | inl here ↦
          subst (λ p. mark_at (set marks to Open) p ≡ mark_of (has p (places_of (path ++ f ∷ []))) (has p order)) (eqb-true to q here)
          (get_or-set_same marks to Open Unseen (omega (arith, below, count))
          ∙ ap (λ b. mark_of b false) (sym (on_here to f path (subst (λ p. (p == to) ≡ true) (sym is) (is_itself to))))
          ∙ ap (mark_of (has to (places_of (path ++ f ∷ [])))) (sym (marked_unseen _ _ (sym (marked to below) ∙ unseen))))
      | inr other ↦
          get_or-set_other marks to q Open Unseen (λ s. differ to q other (sym s)) ∙ marked q b
          ∙ ap (λ b. mark_of b (has q order)) (sym (on_other q f path (subst (λ p. (p == q) ≡ false) (sym is) other)))
    ];
    within = λ q on. elim (or_cases _ _ (sym (on_snoc q f path) ∙ on)) [
      | inl before ↦ within q before
      | inr here ↦ subst (λ p. p < length graph) (sym is ∙ eqb-true f.place q here) below
    ];
    linked = linked;
    laid = laid;
    known = known;
  }

  pub walked_down : (fs : List Frame) (f : Frame) → IsWalked graph marks (fs ++ f ∷ []) order → f.followed < length (edges graph f.place) → IsGraph graph
      → mark_at marks (get_or (edges graph f.place) f.followed 0) ≡ Unseen
      → IsWalked graph (set marks (get_or (edges graph f.place) f.followed 0) Open) ((fs ++ next_frame f ∷ []) ++ record { place = get_or (edges graph f.place) f.followed 0; followed = 0 } ∷ []) order
  walked_down fs f h within is unseen =
      let to = get_or (edges graph f.place) f.followed 0 in
      walked_in (fs ++ next_frame f ∷ []) (record { place = to; followed = 0 }) to
      (λ q b. h.marked q b ∙ ap (λ ps. mark_of (has q ps) (has q order)) (sym (same_places fs f)))
      (λ q on. h.within q (subst (λ ps. has q ps ≡ true) (same_places fs f) on))
      h.count (is f.place to (has_of (edges graph f.place) f.followed within)) refl unseen (path_enter graph order f fs h.linked within) h.laid h.known

  -- an edge to a place of the path
  pub walked_round : (fs : List Frame) (f : Frame) → IsWalked graph marks (fs ++ f ∷ []) order → f.followed < length (edges graph f.place) → IsGraph graph
      → mark_at marks (get_or (edges graph f.place) f.followed 0) ≡ Open → LeadsBack graph
  walked_round fs f h within is open_is =
      let to = get_or (edges graph f.place) f.followed 0 in
      let edge = has_of (edges graph f.place) f.followed within in
      leads_back graph order f fs h.linked to edge (marked_open _ _ (sym (h.marked to (is f.place to edge)) ∙ open_is))

-- steps left

frames_snoc : (graph : List (List ℕ)) (fs : List Frame) (f : Frame) → frames_left graph (fs ++ f ∷ []) ≡ frames_left graph fs + (1 + (length (edges graph f.place) - f.followed))
frames_snoc graph [] f = omega arith
frames_snoc graph (e ∷ fs) f = omega (arith, frames_snoc graph fs f)

unseen_one : (marks : List Mark) (rows : List (List ℕ)) (p : ℕ) (m : Mark) → p < length marks → length marks ≡ length rows → is_unseen (mark_at marks p) ≡ true → is_unseen m ≡ false
    → unseen_left (set marks p m) rows + (1 + length (get_or rows p [])) ≡ unseen_left marks rows
unseen_one [] rows p m within same unseen seen = absurd (omega (arith, within))
unseen_one (k ∷ ks) [] p m within same unseen seen = absurd (omega (arith, same))
unseen_one (k ∷ ks) (row ∷ rows) zero m within same unseen seen = rw (unseen, seen) (omega arith)
unseen_one (k ∷ ks) (row ∷ rows) (suc p) m within same unseen seen = omega (arith, unseen_one ks rows p m (omega (arith, within)) (omega (arith, same)) unseen seen)

unseen_same : (marks : List Mark) (rows : List (List ℕ)) (p : ℕ) (m : Mark) → is_unseen (mark_at marks p) ≡ false → is_unseen m ≡ false → unseen_left (set marks p m) rows ≡ unseen_left marks rows
unseen_same [] rows p m was is = refl
unseen_same (k ∷ ks) [] zero m was is = refl
unseen_same (k ∷ ks) [] (suc p) m was is = refl
unseen_same (k ∷ ks) (row ∷ rows) zero m was is = rw (was, is) refl
unseen_same (k ∷ ks) (row ∷ rows) (suc p) m was is = ap (λ n. (if is_unseen k then 1 + length row else 0) + n) (unseen_same ks rows p m was is)

-- The walk has fewer steps left once it took one.
pub less_back : (graph : List (List ℕ)) (marks : List Mark) (order : List ℕ) (fs : List Frame) (f : Frame) → IsWalked graph marks (fs ++ f ∷ []) order
    → steps_left graph (set marks f.place Done) fs < steps_left graph marks (fs ++ f ∷ [])
less_back graph marks order fs f h =
    let on : has f.place (places_of (fs ++ f ∷ [])) ≡ true = on_here f.place f fs (is_itself f.place) in
    let seen : is_unseen (mark_at marks f.place) ≡ false = ap is_unseen (h.marked f.place (h.within f.place on)) ∙ seen_on_path _ (has f.place order) on in
    let same : unseen_left (set marks f.place Done) graph ≡ unseen_left marks graph = unseen_same marks graph f.place Done seen refl in
    let frames = frames_snoc graph fs f in
    omega (arith, same, frames)

pub less_on : (graph : List (List ℕ)) (marks : List Mark) (fs : List Frame) (f : Frame) → f.followed < length (edges graph f.place)
    → steps_left graph marks (fs ++ next_frame f ∷ []) < steps_left graph marks (fs ++ f ∷ [])
less_on graph marks fs f within =
    let frames = frames_snoc graph fs f in
    let later = frames_snoc graph fs (next_frame f) in
    omega (arith, frames, later, within)

pub less_down : (graph : List (List ℕ)) (marks : List Mark) (fs : List Frame) (f : Frame) (to : ℕ) → f.followed < length (edges graph f.place) → to < length marks → length marks ≡ length graph
    → mark_at marks to ≡ Unseen → steps_left graph (set marks to Open) ((fs ++ next_frame f ∷ []) ++ record { place = to; followed = 0 } ∷ []) < steps_left graph marks (fs ++ f ∷ [])
less_down graph marks fs f to within below same unseen =
    let one = unseen_one marks graph to Open below same (ap is_unseen unseen) refl in
    let frames = frames_snoc graph fs f in
    let later = frames_snoc graph fs (next_frame f) in
    let last = frames_snoc graph (fs ++ next_frame f ∷ []) (record { place = to; followed = 0 }) in
    omega (arith, one, frames, later, last, within)

-- the next edge
pub edge_at : (graph : List (List ℕ)) (place i to : ℕ) (es : List ℕ) → es ≡ edges graph place → true ≡ ltb i (length es) → to ≡ get_or es i to → (i < length (edges graph place)) × (to ≡ get_or (edges graph place) i 0)
edge_at graph place i to es same within is =
    let below : i < length es = ltb-true i (length es) (sym within) in
    (subst (λ xs. i < length xs) same below, is ∙ get_or_default es i to 0 below ∙ ap (λ xs. get_or xs i 0) same)

pub to_within : (graph : List (List ℕ)) (marks : List Mark) (place i to : ℕ) → IsGraph graph → length marks ≡ length graph → i < length (edges graph place) → to ≡ get_or (edges graph place) i 0 → to < length marks
to_within graph marks place i to is count within same =
    let below : get_or (edges graph place) i 0 < length graph = is place (get_or (edges graph place) i 0) (has_of (edges graph place) i within) in
    omega (arith, below, count, same)

module _ (graph : List (List ℕ)) (marks : List Mark) (order : List ℕ) (fs : List Frame) (f : Frame) (to : ℕ) (h : IsWalked graph marks (fs ++ f ∷ []) order) (is : IsGraph graph)
    (within : f.followed < length (edges graph f.place)) (same : to ≡ get_or (edges graph f.place) f.followed 0) where
  pub on_to : mark_at marks to ≡ Done → IsWalked graph marks (fs ++ next_frame f ∷ []) order
  on_to done = walked_on graph marks order fs f h within is (ap (mark_at marks) (sym same) ∙ done)

  pub round_to : mark_at marks to ≡ Open → LeadsBack graph
  round_to opened = walked_round graph marks order fs f h within is (ap (mark_at marks) (sym same) ∙ opened)

  pub down_to : mark_at marks to ≡ Unseen → IsWalked graph (set marks to Open) ((fs ++ next_frame f ∷ []) ++ record { place = to; followed = 0 } ∷ []) order
  down_to unseen =
      subst (λ t. IsWalked graph (set marks t Open) ((fs ++ next_frame f ∷ []) ++ record { place = t; followed = 0 } ∷ []) order) (sym same)
      (walked_down graph marks order fs f h within is (ap (mark_at marks) (sym same) ∙ unseen))

pub last_within : (graph : List (List ℕ)) (marks : List Mark) (order : List ℕ) (fs : List Frame) (f : Frame) → IsWalked graph marks (fs ++ f ∷ []) order → f.place < length marks
last_within graph marks order fs f h =
    let below : f.place < length graph = h.within f.place (on_here f.place f fs (is_itself f.place)) in
    omega (arith, below, h.count)
