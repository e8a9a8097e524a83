-- From what the parts say to what the world says.
use Rattle.std.proofs.Common.{◌≡◌, ◌≢◌, ◌<◌, ◌≤◌, ◌+◌, ℕ, zero, suc, ℤ, ◌≤ℤ◌, true, false, List, [], ◌∷◌, ◌++◌, length, get_or, set, take, Contains, Option, Some, None, Result, Ok, Err, IfOk, OnOk, MatchBool, is_some, refl, sym, ap, ◌∙◌, subst, inl, inr, arith}
use Rattle.std.specs.List.{All, Any, slice_get}
use Rattle.std.specs.List.Sorted.{IsStrictlyIncreasing}
use Rattle.std.proofs.lemmas.Bool.{cases_Bool, cond-true}
use Rattle.std.proofs.lemmas.List.{get_or-take, get_or_default, length-take}
use Rattle.std.proofs.lemmas.List.Elements.{Contains-get_or}
use Rattle.std.proofs.lemmas.List.Kept.{AllPairs-from_increasing}
use Rattle.std.proofs.lemmas.Option.{same_Some, none-some, slice_get_within, get_or_from_slice_get, slice_get-map}
use Rattle.std.proofs.Common.{option_map}
use Rattle.names_realms.specs.declared.pairs.Pair.{Pair}
use Rattle.names_realms.specs.declared.states.State.{State}
use Rattle.names_realms.specs.declared.states.State.TheVariants.{Active, Finalizing, Finalized}
use Rattle.inclusion_graph.specs.declared.edge.Edge.{Edge}
use Rattle.inclusion_graph.specs.declared.plan.EdgeFault.{EdgeFault}
use Rattle.inclusion_graph.specs.Edges.{GraphState, fresh, has, targets_of}
use Rattle.inclusion_graph.specs.Plans as plans
use Rattle.inclusion_graph.specs.Plans.{IsElsewhere, PlanState, new_targets}
use Rattle.inclusion_graph.proofs.ListLemmas.{fresh_held, fresh_new, fresh_within}
use Rattle.finaliser.specs.Settling.{FinaliserState, IsIn}
use Rattle.finaliser.specs.Settling as finaliser
use Rattle.invocations.specs.declared.invocation.Invocation.{Invocation}
use Rattle.invocations.specs.Due.{IsDue, IsNextPlace}
use Rattle.invocations.specs.Rows.{IsInState, TableState, begun, ended, states_of, with_changed}
use Rattle.invocation_world.specs.World.{World, IsCallMoment, IsValid}
use Rattle.invocation_world.specs.Advancing.{Advances, AreQuiet, CarriesOut}
use Rattle.invocation_world.specs.Changes.{is_update, updated, with_row_updated, with_update}
use Rattle.invocation_world.specs.Parts.{AreLinked, IsKept, world_of}
use Rattle.invocation_world.specs.Settling.{AreEnded, SettlesRows}
use Rattle.invocation_world.specs.States.{WorldState, Fits}
use Rattle.invocation_world.specs.Turns.{RunsTo, active_count}
use Rattle.invocation_world.proofs.AdvanceFacts.{carried_quiet, carried_valid}
use Rattle.invocation_world.proofs.RowFacts.{changed_twice, same_lists, all_at, held_or_not, row_in, state_at}
use Rattle.invocation_world.proofs.SettleFacts.{active_before}
use Rattle.invocation_world.proofs.TurnFacts.{turns_carry_out}

-- what rises has no number twice
pub not_taken : (ns : List ℕ) (i : ℕ) → IsStrictlyIncreasing ns → i < length ns → Contains (take i ns) (get_or ns i 0) → ⊥
not_taken ns i rising within held =
    let n = get_or ns i 0 in
    let low : held.0 < i = omega (arith, held.1, length-take i ns) in
    let before : get_or ns held.0 n < get_or ns i n = AllPairs-from_increasing ns rising held.0 i n low within in
    let same : get_or ns held.0 n ≡ n = sym (get_or-take i ns held.0 n low) ∙ held.2 in
    let here : get_or ns i n ≡ n = get_or_default ns i n 0 within in
    absurd (omega (arith, before, same, here))

pub begun_states : (moment : ℤ) (rows : List Invocation) (p : ℕ)
    → states_of (with_changed (begun moment) rows p) ≡ set (states_of rows) p Finalizing
begun_states moment [] p = refl
begun_states moment (x ∷ rows) zero = refl
begun_states moment (x ∷ rows) (suc p) = ap (λ ss. x.state ∷ ss) (begun_states moment rows p)

-- the finaliser settled states, and the rows at its finals were ended
pub record IsRetired (moment : ℤ) (edges : List Edge) (rows : List Invocation) (p : ℕ) (states new_states : List State)
    (more : List ℕ) (new : List Invocation) : Type 0 where
  pub linked : states ≡ states_of rows
  pub settles : finaliser.Settles edges (set states p Finalizing) new_states more
  pub are_ended : AreEnded moment more (with_changed (begun moment) rows p) new

settles_mid : (moment : ℤ) (edges : List Edge) (rows : List Invocation) (p : ℕ) (states new_states : List State)
    (more : List ℕ) (new : List Invocation) → IsRetired moment edges rows p states new_states more new
    → finaliser.Settles edges (states_of (with_changed (begun moment) rows p)) new_states more
settles_mid moment edges rows p states new_states more new h =
    subst (λ (ss : List State). finaliser.Settles edges ss new_states more)
    (ap (λ (ss : List State). set ss p Finalizing) h.linked ∙ sym (begun_states moment rows p)) h.settles

pub retired_rows : (moment : ℤ) (edges : List Edge) (rows : List Invocation) (p : ℕ) (states new_states : List State)
    (more : List ℕ) (new : List Invocation) → IsRetired moment edges rows p states new_states more new
    → SettlesRows moment edges (with_changed (begun moment) rows p) new
retired_rows moment edges rows p states new_states more new h = record {
  places = more;
  all = (settles_mid moment edges rows p states new_states more new h).all;
  are_ended = h.are_ended;
}

pub retired_states : (moment : ℤ) (edges : List Edge) (rows : List Invocation) (p : ℕ) (states new_states : List State)
    (more : List ℕ) (new : List Invocation) → IsRetired moment edges rows p states new_states more new
    → new_states ≡ states_of new
retired_states moment edges rows p states new_states more new h =
    let mid = with_changed (begun moment) rows p in
    let s = settles_mid moment edges rows p states new_states more new h in
    same_lists new_states (states_of new)
    (λ q. elim (held_or_not more q) [
      | inl held ↦
          let row = row_in Finalizing mid q ((s.all q).0 held).0 in
          s.final q held ∙ sym (state_at new q (ended moment row.0) (h.are_ended.these q row.0 held row.1))
      | inr not ↦
          s.others q not ∙ slice_get-map (λ (r : Invocation). r.state) mid q
          ∙ ap (option_map (λ (r : Invocation). r.state)) (sym (h.are_ended.others q not))
          ∙ sym (slice_get-map (λ (r : Invocation). r.state) new q)
    ])

pub finals_wait : (moment : ℤ) (edges : List Edge) (rows : List Invocation) (p : ℕ) (states new_states : List State) (more : List ℕ)
    → states ≡ states_of rows → finaliser.Settles edges (set states p Finalizing) new_states more
    → All (IsInState Finalizing (with_changed (begun moment) rows p)) more
finals_wait moment edges rows p states new_states more linked settles =
    let s = subst (λ (ss : List State). finaliser.Settles edges ss new_states more)
    (ap (λ (ss : List State). set ss p Finalizing) linked ∙ sym (begun_states moment rows p)) settles in
    λ k d low. ((s.all (get_or more k d)).0 (Contains-get_or more k d low)).0

-- how many rows are active
pub active_le : (xs ys : List State) → ((q : ℕ) → IsIn Active ys q → IsIn Active xs q) → active_count ys ≤ active_count xs
active_le xs [] h = omega arith
active_le [] (Active ∷ ys) h = absurd (none-some Active (h zero refl))
active_le [] (Finalizing ∷ ys) h = active_le [] ys (λ q is. h (suc q) is)
active_le [] (Finalized ∷ ys) h = active_le [] ys (λ q is. h (suc q) is)
active_le (Active ∷ xs) (Active ∷ ys) h = let less = active_le xs ys (λ q is. h (suc q) is) in omega arith
active_le (Active ∷ xs) (Finalizing ∷ ys) h = let less = active_le xs ys (λ q is. h (suc q) is) in omega arith
active_le (Active ∷ xs) (Finalized ∷ ys) h = let less = active_le xs ys (λ q is. h (suc q) is) in omega arith
active_le (Finalizing ∷ xs) (Active ∷ ys) h = let no : Finalizing ≡ Active = same_Some Finalizing Active (h zero refl) in cc
active_le (Finalizing ∷ xs) (Finalizing ∷ ys) h = active_le xs ys (λ q is. h (suc q) is)
active_le (Finalizing ∷ xs) (Finalized ∷ ys) h = active_le xs ys (λ q is. h (suc q) is)
active_le (Finalized ∷ xs) (Active ∷ ys) h = let no : Finalized ≡ Active = same_Some Finalized Active (h zero refl) in cc
active_le (Finalized ∷ xs) (Finalizing ∷ ys) h = active_le xs ys (λ q is. h (suc q) is)
active_le (Finalized ∷ xs) (Finalized ∷ ys) h = active_le xs ys (λ q is. h (suc q) is)

pub one_less : (states : List State) (p : ℕ) → IsIn Active states p → active_count (set states p Finalizing) + 1 ≡ active_count states
one_less [] p e = absurd (none-some Active e)
one_less (s ∷ states) zero e =
    subst (λ x. active_count states + 1 ≡ active_count (x ∷ states)) (sym (same_Some s Active e)) (omega arith)
one_less (Active ∷ states) (suc p) e = let less = one_less states p e in omega arith
one_less (Finalizing ∷ states) (suc p) e = one_less states p e
one_less (Finalized ∷ states) (suc p) e = one_less states p e

pub fewer_active : (moment : ℤ) (edges : List Edge) (rows : List Invocation) (p : ℕ) (new : List Invocation) → IsInState Active rows p
    → SettlesRows moment edges (with_changed (begun moment) rows p) new
    → active_count (states_of new) < active_count (states_of rows)
fewer_active moment edges rows p new active s =
    let mid = with_changed (begun moment) rows p in
    let le : active_count (states_of new) ≤ active_count (states_of mid) =
    active_le (states_of mid) (states_of new) (λ q is. active_before moment edges mid new s q is) in
    let less = one_less (states_of rows) p active in
    let same : active_count (states_of mid) ≡ active_count (set (states_of rows) p Finalizing) = ap active_count (begun_states moment rows p) in
    omega (arith, le, less, same)

pub due_or_quiet : (rows : List Invocation) (moment : ℤ) (found : Option ℕ) → IsNextPlace rows moment found
    → MatchBool (is_some found) (Any (IsDue moment) rows) (AreQuiet rows moment)
due_or_quiet rows moment None h = h
due_or_quiet rows moment (Some p) h =
    (p, h.0, slice_get_within rows p h.0 h.1.stands, get_or_from_slice_get rows p h.0 h.0 h.1.stands, h.1.due)

-- what was due was carried out
by_deadlines : (w : World) (moment : ℤ) (rows : List Invocation) (ds : List ℤ) → (AreQuiet w.invocations moment → ⊥)
    → CarriesOut w.inclusions moment w.invocations ds rows
    → Advances w moment (record { invocations = rows; inclusions = w.inclusions; last = moment })
by_deadlines w moment rows [] due h = absurd (due h.0)
by_deadlines w moment rows (d ∷ ds) due h = record { deadlines = d ∷ ds; rows = rows; carried = h; after_is = refl }

due_at_next : (rows : List Invocation) (moment : ℤ) (found : Option ℕ) → is_some found ≡ true → IsNextPlace rows moment found
    → AreQuiet rows moment → ⊥
due_at_next rows moment None e h quiet = let no : false ≡ true = e in cc
due_at_next rows moment (Some p) e h quiet = all_at (λ r. ¬ IsDue moment r) rows p h.0 quiet h.1.stands h.1.due

-- the parts once what was due was carried out
pub record IsCarried (moment : ℤ) (table : TableState) (finaliser : FinaliserState) (last : ℤ) (new : TableState)
    (new_finaliser : FinaliserState) : Type 0 where
  pub kept : IsKept table finaliser last
  pub call : IsCallMoment moment
  pub later : last ≤ℤ moment
  pub runs : RunsTo finaliser.graph.edges moment table.rows new.rows
  pub linked : AreLinked new new_finaliser
  pub graph : new_finaliser.graph ≡ finaliser.graph

pub carried_kept : (moment : ℤ) (table : TableState) (finaliser : FinaliserState) (last : ℤ) (new : TableState)
    (new_finaliser : FinaliserState) → IsCarried moment table finaliser last new new_finaliser → IsKept new new_finaliser moment
carried_kept moment table finaliser last new new_finaliser h =
    let edges = finaliser.graph.edges in
    let carried = turns_carry_out moment edges table.rows new.rows h.runs in
    record {
      valid = subst (λ (g : GraphState). IsValid (record { invocations = new.rows; inclusions = g.edges; last = moment })) (sym h.graph)
          (carried_valid edges last moment table.rows carried.0 new.rows h.kept.valid h.call h.later carried.1);
      linked = h.linked;
    }

pub carried_quiets : (moment : ℤ) (table : TableState) (finaliser : FinaliserState) (last : ℤ) (new : TableState)
    (new_finaliser : FinaliserState) → IsCarried moment table finaliser last new new_finaliser → AreQuiet new.rows moment
carried_quiets moment table finaliser last new new_finaliser h =
    let carried = turns_carry_out moment finaliser.graph.edges table.rows new.rows h.runs in
    carried_quiet finaliser.graph.edges moment table.rows carried.0 new.rows carried.1

pub carried_advances : (moment : ℤ) (table : TableState) (finaliser : FinaliserState) (last : ℤ) (new : TableState)
    (new_finaliser : FinaliserState) → IsCarried moment table finaliser last new new_finaliser → (found : Option ℕ)
    → is_some found ≡ true → IsNextPlace table.rows moment found
    → Advances (world_of table finaliser last) moment (world_of new new_finaliser moment)
carried_advances moment table finaliser last new new_finaliser h found some next =
    let carried = turns_carry_out moment finaliser.graph.edges table.rows new.rows h.runs in
    subst (λ (g : GraphState). Advances (world_of table finaliser last) moment (record { invocations = new.rows; inclusions = g.edges; last = moment }))
    (sym h.graph)
    (by_deadlines (world_of table finaliser last) moment new.rows carried.0 (due_at_next table.rows moment found some next) carried.1)

-- what is fresh stays so
pub fresh_twice : (held ts : List ℕ) → fresh held (fresh held ts) ≡ fresh held ts
fresh_twice held [] = refl
fresh_twice held (n ∷ ns) =
    elim (cases_Bool (has held n)) [
      | inl there ↦ ap (fresh held) (fresh_held held ns n there) ∙ fresh_twice held ns ∙ sym (fresh_held held ns n there)
      | inr new ↦
          ap (fresh held) (fresh_new held ns n new) ∙ fresh_new held (fresh (held ++ n ∷ []) ns) n new
          ∙ ap (λ ms. n ∷ ms) (fresh_twice (held ++ n ∷ []) ns) ∙ sym (fresh_new held ns n new)
    ]

-- a plan of the graph fits the world
pub record IsPlanned (state : WorldState) (graph : GraphState) (place : ℕ) (targets : List ℕ) (plan : PlanState) : Type 0 where
  pub active : IsInState Active state.world.invocations place
  pub there : All (λ target. target < length state.world.invocations) targets
  pub edges : graph.edges ≡ state.world.inclusions
  pub room : graph.spare_edges ≡ state.room.inclusions
  pub fits : plans.Fits graph plan
  pub from : plan.from ≡ place
  pub targets_are : plan.targets ≡ fresh (targets_of state.world.inclusions place) targets
  pub elsewhere : IsElsewhere place targets

pub fits_world : (state : WorldState) (graph : GraphState) (place : ℕ) (targets : List ℕ) (plan : PlanState)
    → IsPlanned state graph place targets plan → Fits state plan
fits_world state graph place targets plan h =
    let rows = state.world.invocations in
    let edges = state.world.inclusions in
    let held : plan.held ≡ targets_of edges plan.from = h.fits.held ∙ ap (λ (es : List Edge). targets_of es plan.from) h.edges in
    let here : plan.held ≡ targets_of edges place = held ∙ ap (targets_of edges) h.from in
    record {
      active = subst (IsInState Active rows) (sym h.from) h.active;
      held = held;
      new = ap (λ hs. fresh hs plan.targets) here ∙ ap (fresh (targets_of edges place)) h.targets_are
          ∙ fresh_twice (targets_of edges place) targets ∙ sym h.targets_are;
      there = subst (All (λ t. t < length rows)) (sym h.targets_are)
          (fresh_within (λ t. t < length rows) (targets_of edges place) targets h.there);
      elsewhere = subst (λ p. All (λ t. t ≢ p) plan.targets) (sym h.from)
          (subst (All (λ t. t ≢ place)) (sym h.targets_are) (fresh_within (λ t. t ≢ place) (targets_of edges place) targets h.elsewhere));
      few = subst (λ (es : List Edge). length es + length plan.targets ≤ 262_144) h.edges h.fits.few;
      room = subst (λ n. length plan.targets ≤ n) h.room h.fits.room;
    }

pub fits_result : (state : WorldState) (graph : GraphState) (place : ℕ) (targets : List ℕ) (result : Result PlanState EdgeFault)
    → IsInState Active state.world.invocations place → All (λ target. target < length state.world.invocations) targets
    → graph.edges ≡ state.world.inclusions → graph.spare_edges ≡ state.room.inclusions
    → IfOk result (plans.Fits graph) → IfOk result (λ plan. plan.from ≡ place)
    → IfOk result (λ plan. plan.targets ≡ fresh (targets_of state.world.inclusions place) targets)
    → OnOk result (IsElsewhere place targets) → IfOk result (Fits state)
fits_result state graph place targets (Ok plan) active there edges room fits from targets_are elsewhere =
    fits_world state graph place targets plan
    (record {
      active = active;
      there = there;
      edges = edges;
      room = room;
      fits = fits;
      from = from;
      targets_are = targets_are;
      elsewhere = elsewhere;
    })
fits_result state graph place targets (Err fault) active there edges room fits from targets_are elsewhere = tt

-- a deadline that is set, and then tags
pub updated_twice : (deadline : Option ℤ) (tags : Option (List Pair)) (old mid new : List Invocation) (p : ℕ)
    → mid ≡ with_changed (updated deadline None) old p → new ≡ with_changed (updated None tags) mid p
    → new ≡ with_changed (updated deadline tags) old p
updated_twice deadline tags old mid new p first second =
    second ∙ ap (λ (rs : List Invocation). with_changed (updated None tags) rs p) first
    ∙ changed_twice (updated deadline None) (updated None tags) (updated deadline tags) (λ row. refl) old p

pub update_is : (moment : ℤ) (p : ℕ) (deadline : Option ℤ) (tags : Option (List Pair)) (w : World) (row : Invocation)
    (new : List Invocation) → slice_get w.invocations p ≡ Some row → is_update deadline tags row ≡ true
    → new ≡ with_changed (updated deadline tags) w.invocations p
    → record { invocations = new; inclusions = w.inclusions; last = moment } ≡ with_update moment p deadline tags w
update_is moment p deadline tags w row new at told is =
    let moved : List Invocation → World = λ rs. record { invocations = rs; inclusions = w.inclusions; last = moment } in
    let made = moved (with_changed (updated deadline tags) w.invocations p) in
    ap moved is ∙ sym (cond-true (is_update deadline tags row) made w told) ∙ ap (with_row_updated moment p deadline tags w) (sym at)
