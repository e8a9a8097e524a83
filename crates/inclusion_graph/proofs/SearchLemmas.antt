-- A search, step by step.
use Rattle.std.proofs.Common.{◌≡◌, ◌↔◌, ◌<◌, ◌≤◌, ◌+◌, ℕ, zero, suc, nat_eq, true, false, List, [], ◌∷◌, ◌++◌, length, get_or, Contains, Option, Some, None, MatchOption, cond, option_map, refl, sym, ap, ◌∙◌, subst, inl, inr, arith, append_assoc}
use Rattle.std.specs.List.{slice_get, All, IsDistinct}
use Rattle.std.specs.Map.{lookup}
use Rattle.std.proofs.lemmas.Bool.{cases_Bool, cases_lt, cond-true, cond-false}
use Rattle.std.proofs.lemmas.Bool.Decides.{Decides-eqb}
use Rattle.std.proofs.lemmas.List.{length_push, map_push, map-append, append-nil, length-map}
use Rattle.std.proofs.lemmas.List.Elements.{All-nil, All-map, All-push, All-append, All-contains, All-weaker, Contains-append_left, Contains-append_right, Contains-append_cases, Contains-push}
use Rattle.std.proofs.lemmas.Map.Keys.{IsDistinct-from_apart}
use Rattle.std.proofs.lemmas.Map.Steps.{length-le_from_distinct_below}
use Rattle.std.proofs.lemmas.Option.{same_Some, slice_get-get_or, slice_get-map, slice_get_read, slice_get_within}
use Rattle.inclusion_graph.specs.declared.edge.Edge.{Edge}
use Rattle.inclusion_graph.specs.declared.search.Step.{Step}
use Rattle.inclusion_graph.specs.Edges.{HasEdge, targets_of}
use Rattle.inclusion_graph.specs.Searches.{IsGrown, IsPlaced, IsRooted, IsSearched, nodes_of}
use Rattle.inclusion_graph.specs.Walks.{IsReached}
use Rattle.inclusion_graph.proofs.ListLemmas.{at_either, at_end, at_left, contained, held_from, in_one, place_held}
use Rattle.inclusion_graph.proofs.WalkLemmas.{along, reaches_itself, reaches_more}

pub placed_none : (places : List (ℕ × ℕ)) (steps : List Step) → places ≡ [] → steps ≡ [] → IsPlaced places steps
placed_none places steps no_places no_steps = λ node place. (
  λ e. let no : None ≡ Some place = subst (λ ps. lookup (nat_eq node) ps ≡ Some place) no_places e in cc,
  λ e. let no : None ≡ Some node = subst (λ (ss : List Step). slice_get (nodes_of ss) place ≡ Some node) no_steps e in cc,
)

placed_push : (places new : List (ℕ × ℕ)) (nodes : List ℕ) (last : ℕ)
    → ((node place : ℕ) → (lookup (nat_eq node) places ≡ Some place) ↔ (slice_get nodes place ≡ Some node))
    → lookup (nat_eq last) places ≡ None
    → ((node : ℕ) → lookup (nat_eq node) new ≡ cond (nat_eq last node) (Some (length nodes)) (lookup (nat_eq node) places))
    → (node place : ℕ) → (lookup (nat_eq node) new ≡ Some place) ↔ (slice_get (nodes ++ last ∷ []) place ≡ Some node)
placed_push places new nodes last h none is node place =
    let all = nodes ++ last ∷ [] in
    elim (cases_Bool (nat_eq last node)) [
      | inl yes_ ↦
          let same : last ≡ node = (Decides-eqb last node).0 yes_ in
          let here : lookup (nat_eq node) new ≡ Some (length nodes) =
          is node ∙ cond-true (nat_eq last node) (Some (length nodes)) (lookup (nat_eq node) places) yes_ in (
            λ e.
                let at : length nodes ≡ place = same_Some (length nodes) place (sym here ∙ e) in
                subst (λ i. slice_get all i ≡ Some node) at (at_end nodes last ∙ ap Some same),
            λ e. elim (at_either nodes (last ∷ []) place node e) [
              | inl old ↦
                  let there = subst (λ n. lookup (nat_eq n) places ≡ Some place) (sym same) ((h node place).1 old) in
                  let no : None ≡ Some place = sym none ∙ there in cc
              | inr fresh ↦
                  let within = slice_get_within all place node e in
                  let at : length nodes ≡ place = omega (arith, fresh.0, within, length_push nodes last) in
                  here ∙ ap Some at
            ],
          )
      | inr no_ ↦
          let here : lookup (nat_eq node) new ≡ lookup (nat_eq node) places =
          is node ∙ cond-false (nat_eq last node) (Some (length nodes)) (lookup (nat_eq node) places) no_ in (
            λ e.
                let old = (h node place).0 (sym here ∙ e) in
                at_left nodes (last ∷ []) place (slice_get_within nodes place node old) ∙ old,
            λ e. elim (at_either nodes (last ∷ []) place node e) [
              | inl old ↦ here ∙ (h node place).1 old
              | inr fresh ↦
                  let no : false ≡ true = sym no_ ∙ (Decides-eqb last node).1 (in_one last node fresh.1) in cc
            ],
          )
    ]

pub placed_more : (places new : List (ℕ × ℕ)) (steps : List Step) (step : Step) → IsPlaced places steps
    → lookup (nat_eq step.node) places ≡ None
    → ((node : ℕ) → lookup (nat_eq node) new ≡ cond (nat_eq step.node node) (Some (length steps)) (lookup (nat_eq node) places))
    → IsPlaced new (steps ++ step ∷ [])
placed_more places new steps step h none is =
    let count = length-map steps (λ (s : Step). s.node) in
    subst (λ ns. (node place : ℕ) → (lookup (nat_eq node) new ≡ Some place) ↔ (slice_get ns place ≡ Some node))
    (sym (map_push (λ (s : Step). s.node) steps step))
    (placed_push places new (nodes_of steps) step.node h none
    (λ node. is node ∙ ap (λ n. cond (nat_eq step.node node) (Some n) (lookup (nat_eq node) places)) (sym count)))

pub found_contained : (places : List (ℕ × ℕ)) (steps : List Step) (node : ℕ) (at : Option ℕ) → IsPlaced places steps
    → lookup (nat_eq node) places ≡ at → (at ≡ None → ⊥) → Contains (nodes_of steps) node
found_contained places steps node None h e some = absurd (some refl)
found_contained places steps node (Some place) h e some = contained (nodes_of steps) place node ((h node place).0 e)

pub placed_distinct : (places : List (ℕ × ℕ)) (steps : List Step) → IsPlaced places steps → IsDistinct nat_eq (nodes_of steps)
placed_distinct places steps h =
    let nodes = nodes_of steps in
    IsDistinct-from_apart nat_eq nodes
    (λ i j d low within. elim (cases_Bool (nat_eq (get_or nodes i d) (get_or nodes j d))) [
      | inl yes_ ↦
          let same : get_or nodes i d ≡ get_or nodes j d = (Decides-eqb (get_or nodes i d) (get_or nodes j d)).0 yes_ in
          let first = (h (get_or nodes i d) i).1 (slice_get-get_or nodes i d (omega arith)) in
          let second = (h (get_or nodes i d) j).1 (slice_get-get_or nodes j d within ∙ ap Some (sym same)) in
          absurd (omega (arith, low, same_Some i j (sym first ∙ second)))
      | inr no_ ↦ no_
    ])

-- no more are found than there are
pub found_few : (places : List (ℕ × ℕ)) (steps : List Step) (nodes : ℕ) → IsPlaced places steps → All (λ step. step.node < nodes) steps
    → length steps ≤ nodes
found_few places steps nodes h within =
    let count = length-map steps (λ (s : Step). s.node) in
    omega (
      arith,
      count,
      length-le_from_distinct_below (nodes_of steps) nodes (placed_distinct places steps h)
          (λ n e. All-contains (λ m. m < nodes) (nodes_of steps) n (All-map (λ m. m < nodes) (λ (s : Step). s.node) steps within)
          (held_from (nodes_of steps) n e)),
    )

-- the nodes that are found are those of targets
pub grown_within : (P : ℕ → Type 0) (targets : List ℕ) (back : Option ℕ) (old new : List Step) → All P targets
    → All (λ (step : Step). P step.node) old → IsGrown targets back old new → All (λ (step : Step). P step.node) new
grown_within P targets back old new within before grown =
    subst (All (λ (s : Step). P s.node)) (sym grown.is)
    (All-append (λ (s : Step). P s.node) old grown.more before
    (All-weaker (λ s. Contains targets s.node × (s.back ≡ back)) (λ (s : Step). P s.node)
    (λ s h. All-contains P targets s.node within h.0) grown.more grown.steps))

pub grown_new : (steps : List Step) (step : Step) → IsGrown (step.node ∷ []) step.back steps (steps ++ step ∷ [])
grown_new steps step = record {
  more = step ∷ [];
  is = refl;
  steps = All-push (λ (s : Step). Contains (step.node ∷ []) s.node × (s.back ≡ step.back)) [] step
      (All-nil (λ (s : Step). Contains (step.node ∷ []) s.node × (s.back ≡ step.back))) ((zero, omega arith, refl), refl);
  all = λ target held. subst (Contains (nodes_of (steps ++ step ∷ []))) (in_one step.node target held)
      (subst (λ ns. Contains ns step.node) (sym (map_push (λ (s : Step). s.node) steps step)) (Contains-push (nodes_of steps) step.node));
}

pub grown_old : (steps : List Step) (node : ℕ) (back : Option ℕ) → Contains (nodes_of steps) node → IsGrown (node ∷ []) back steps steps
grown_old steps node back found = record {
  more = [];
  is = sym (append-nil steps);
  steps = All-nil (λ (s : Step). Contains (node ∷ []) s.node × (s.back ≡ back));
  all = λ target held. subst (Contains (nodes_of steps)) (in_one node target held) found;
}

nodes_stay : (old more : List Step) (n : ℕ) → Contains (nodes_of old) n → Contains (nodes_of (old ++ more)) n
nodes_stay old more n held =
    subst (λ ns. Contains ns n) (sym (map-append (λ (s : Step). s.node) old more)) (Contains-append_left (nodes_of old) (nodes_of more) n held)

pub grown_more : (targets : List ℕ) (target : ℕ) (back : Option ℕ) (a b c : List Step) → IsGrown targets back a b
    → IsGrown (target ∷ []) back b c → IsGrown (targets ++ target ∷ []) back a c
grown_more targets target back a b c first next =
    let P : Step → Type 0 = λ s. Contains (targets ++ target ∷ []) s.node × (s.back ≡ back) in
    record {
      more = first.more ++ next.more;
      is = next.is ∙ ap (λ xs. xs ++ next.more) first.is ∙ append_assoc a first.more next.more;
      steps = All-append P first.more next.more
          (All-weaker (λ s. Contains targets s.node × (s.back ≡ back)) P (λ s h. (Contains-append_left targets (target ∷ []) s.node h.0, h.1)) first.more first.steps)
          (All-weaker (λ s. Contains (target ∷ []) s.node × (s.back ≡ back)) P (λ s h. (Contains-append_right targets (target ∷ []) s.node h.0, h.1)) next.more next.steps);
      all = λ n held. elim (Contains-append_cases targets (target ∷ []) n held) [
        | inl old ↦ subst (λ ss. Contains (nodes_of ss) n) (sym next.is) (nodes_stay b next.more n (first.all n old))
        | inr new ↦ next.all n new
      ];
    }

pub searched_start : (edges : List Edge) (roots : List ℕ) (none steps : List Step) → none ≡ []
    → IsGrown roots None none steps → IsSearched edges roots steps 0
searched_start edges roots none steps empty grown =
    let is : steps ≡ grown.more = grown.is ∙ ap (λ xs. xs ++ grown.more) empty in
    record {
      rooted = λ place step at.
          let said = All-contains (λ (s : Step). Contains roots s.node × (s.back ≡ None)) grown.more step grown.steps
          (subst (λ xs. Contains xs step) is (contained steps place step at)) in
          subst (λ o. MatchOption o (Contains roots step.node)
          (λ back. (back < place) × ((node : ℕ) × (slice_get (nodes_of steps) back ≡ Some node) × HasEdge edges node step.node))) (sym said.1) said.0;
      begun = grown.all;
      closed = λ place node target low. absurd (omega arith);
    }

node_left : (old more : List Step) (i : ℕ) (n : ℕ) → slice_get (nodes_of old) i ≡ Some n → slice_get (nodes_of (old ++ more)) i ≡ Some n
node_left old more i n e =
    subst (λ ns. slice_get ns i ≡ Some n) (sym (map-append (λ (s : Step). s.node) old more))
    (at_left (nodes_of old) (nodes_of more) i (slice_get_within (nodes_of old) i n e) ∙ e)

node_old : (old more : List Step) (i : ℕ) (n : ℕ) → i < length old → slice_get (nodes_of (old ++ more)) i ≡ Some n
    → slice_get (nodes_of old) i ≡ Some n
node_old old more i n low e =
    sym (at_left (nodes_of old) (nodes_of more) i (omega (arith, length-map old (λ (s : Step). s.node))))
    ∙ subst (λ ns. slice_get ns i ≡ Some n) (map-append (λ (s : Step). s.node) old more) e

rooted_stays : (edges : List Edge) (roots : List ℕ) (steps more : List Step) (place : ℕ) (step : Step) (back : Option ℕ)
    → MatchOption back (Contains roots step.node)
    (λ b. (b < place) × ((n : ℕ) × (slice_get (nodes_of steps) b ≡ Some n) × HasEdge edges n step.node))
    → MatchOption back (Contains roots step.node)
    (λ b. (b < place) × ((n : ℕ) × (slice_get (nodes_of (steps ++ more)) b ≡ Some n) × HasEdge edges n step.node))
rooted_stays edges roots steps more place step None h = h
rooted_stays edges roots steps more place step (Some b) h = (h.0, (h.1.0, node_left steps more b h.1.0 h.1.1, h.1.2))

pub searched_more : (edges : List Edge) (roots : List ℕ) (steps new : List Step) (at node : ℕ)
    → IsSearched edges roots steps at → slice_get (nodes_of steps) at ≡ Some node
    → ((target : ℕ) → Contains (targets_of edges node) target ↔ HasEdge edges node target)
    → IsGrown (targets_of edges node) (Some at) steps new → IsSearched edges roots new (at + 1)
searched_more edges roots steps new at node h here lists grown =
    let more = grown.more in
    let low : at < length steps = omega (arith, slice_get_within (nodes_of steps) at node here, length-map steps (λ (s : Step). s.node)) in
    subst (λ (ss : List Step). IsSearched edges roots ss (at + 1)) (sym grown.is)
    (record {
      rooted = λ place step e. elim (at_either steps more place step e) [
        | inl old ↦ rooted_stays edges roots steps more place step step.back (h.rooted place step old)
        | inr fresh ↦
            let said = All-contains (λ (s : Step). Contains (targets_of edges node) s.node × (s.back ≡ Some at)) more step grown.steps fresh.1 in
            subst (λ o. MatchOption o (Contains roots step.node)
            (λ back. (back < place) × ((n : ℕ) × (slice_get (nodes_of (steps ++ more)) back ≡ Some n) × HasEdge edges n step.node))) (sym said.1)
            (omega (arith, fresh.0, low), (node, node_left steps more at node here, (lists step.node).0 said.0))
      ];
      begun = λ root held. nodes_stay steps more root (h.begun root held);
      closed = λ place n target below e edge. elim (cases_lt place at) [
        | inl before ↦ nodes_stay steps more target (h.closed place n target before (node_old steps more place n (omega arith) e) edge)
        | inr after ↦
            let same : place ≡ at = omega arith in
            let is : n ≡ node = same_Some n node (sym (subst (λ p. slice_get (nodes_of steps) p ≡ Some n) same (node_old steps more place n (omega arith) e)) ∙ here) in
            subst (λ (ss : List Step). Contains (nodes_of ss) target) grown.is
            (grown.all target ((lists target).1 (subst (λ m. HasEdge edges m target) is edge)))
      ];
    })

pub step_at : (steps : List Step) (i n : ℕ) → slice_get (nodes_of steps) i ≡ Some n
    → (step : Step) × (slice_get steps i ≡ Some step) × (step.node ≡ n)
step_at [] i n e = let no : None ≡ Some n = e in cc
step_at (x ∷ xs) zero n e = (x, refl, same_Some x.node n e)
step_at (x ∷ xs) (suc i) n e = step_at xs i n e

reached_step : (edges : List Edge) (roots : List ℕ) (steps : List Step) (bound place : ℕ) (step : Step) (back : Option ℕ) → place ≤ bound
    → MatchOption back (Contains roots step.node)
    (λ b. (b < place) × ((n : ℕ) × (slice_get (nodes_of steps) b ≡ Some n) × HasEdge edges n step.node))
    → ((p m : ℕ) → p < bound → slice_get (nodes_of steps) p ≡ Some m → IsReached edges roots m)
    → IsReached edges roots step.node
reached_step edges roots steps bound place step None low h earlier = (step.node, h, reaches_itself edges step.node)
reached_step edges roots steps bound place step (Some b) low h earlier =
    let before = earlier b h.1.0 (omega (arith, h.0)) h.1.1 in
    (before.0, before.1, reaches_more edges before.0 h.1.0 step.node before.2 h.1.2)

-- what is found is reached
reached_by : (edges : List Edge) (roots : List ℕ) (steps : List Step) → IsRooted edges roots steps → (bound place n : ℕ) → place < bound
    → slice_get (nodes_of steps) place ≡ Some n → IsReached edges roots n
reached_by edges roots steps rooted zero place n low e = absurd (omega arith)
reached_by edges roots steps rooted (suc bound) place n low e =
    let found = step_at steps place n e in
    subst (IsReached edges roots) found.2
    (reached_step edges roots steps bound place found.0 found.0.back (omega arith) (rooted place found.0 found.1)
    (λ p m below at. reached_by edges roots steps rooted bound p m below at))

pub found_reached : (edges : List Edge) (roots : List ℕ) (steps : List Step) (at : ℕ)
    → IsSearched edges roots steps at → (n : ℕ) → Contains (nodes_of steps) n → IsReached edges roots n
found_reached edges roots steps at h n held =
    let place = place_held (nodes_of steps) n held in
    reached_by edges roots steps h.rooted (suc place.0) place.0 n (omega arith) place.1

-- what is reached is found
pub reached_found : (edges : List Edge) (roots : List ℕ) (steps : List Step)
    → IsSearched edges roots steps (length steps) → (n : ℕ) → IsReached edges roots n → Contains (nodes_of steps) n
reached_found edges roots steps h n reached =
    along edges (Contains (nodes_of steps))
    (λ a b held edge. let place = place_held (nodes_of steps) a held in
    h.closed place.0 a b (omega (arith, slice_get_within (nodes_of steps) place.0 a place.1, length-map steps (λ (s : Step). s.node))) place.1 edge)
    reached.2.0 reached.0 n reached.2.1 (h.begun reached.0 reached.1)

-- the step back from a step

pub node_at : (steps : List Step) (at : ℕ) (step : Step) → at < length steps → step ≡ get_or steps at step
    → slice_get (nodes_of steps) at ≡ Some step.node
node_at steps at step within is =
    slice_get-map (λ (s : Step). s.node) steps at
    ∙ ap (option_map (λ (s : Step). s.node)) (slice_get_read steps (length steps) at step refl within is)

pub back_step : (edges : List Edge) (roots : List ℕ) (steps : List Step) (at : ℕ) (step : Step) (back : ℕ) → IsRooted edges roots steps
    → at < length steps → step ≡ get_or steps at step → step.back ≡ Some back
    → (back < at) × ((n : ℕ) × (slice_get (nodes_of steps) back ≡ Some n) × HasEdge edges n step.node)
back_step edges roots steps at step back rooted within is e =
    subst (λ o. MatchOption o (Contains roots step.node)
    (λ b. (b < at) × ((n : ℕ) × (slice_get (nodes_of steps) b ≡ Some n) × HasEdge edges n step.node))) e
    (rooted at step (slice_get_read steps (length steps) at step refl within is))

pub back_root : (edges : List Edge) (root : ℕ) (steps : List Step) (at : ℕ) (step : Step) → IsRooted edges (root ∷ []) steps
    → at < length steps → step ≡ get_or steps at step → step.back ≡ None → step.node ≡ root
back_root edges root steps at step rooted within is e =
    sym (in_one root step.node (subst (λ o. MatchOption o (Contains (root ∷ []) step.node)
    (λ b. (b < at) × ((n : ℕ) × (slice_get (nodes_of steps) b ≡ Some n) × HasEdge edges n step.node))) e
    (rooted at step (slice_get_read steps (length steps) at step refl within is))))
