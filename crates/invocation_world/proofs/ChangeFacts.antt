-- Rows that are added, updated and included: the world stays valid.
use Rattle.std.proofs.Common.{◌≡◌, ◌≢◌, ◌<◌, ◌≤◌, ◌+◌, ℕ, zero, suc, ℤ, pos, ◌≤ℤ◌, ◌<ℤ◌, List, [], ◌∷◌, ◌++◌, length, get_or, Contains, Option, Some, None, unwrap_or, refl, sym, ap, ◌∙◌, subst, inl, inr, arith, append_assoc}
use Rattle.std.specs.List.{All, AllPairs, slice_get}
use Rattle.std.specs.Option.{ForSome}
use Rattle.std.proofs.lemmas.Bool.{cases_Bool, cases_eq, false≢true}
use Rattle.std.proofs.lemmas.Int.{ints}
use Rattle.std.proofs.lemmas.List.{append-nil, length-append, length_push}
use Rattle.std.proofs.lemmas.List.Elements.{All-append, All-contains, All-map, All-push, All-weaker, Contains-get_or, filter_map-append}
use Rattle.std.proofs.lemmas.List.Quantifiers.{all_pairs_push}
use Rattle.std.proofs.lemmas.Option.{same_Some, slice_get_within}
use Rattle.names_realms.specs.declared.pairs.Pair.{Pair}
use Rattle.names_realms.specs.declared.states.State.{State}
use Rattle.names_realms.specs.declared.states.State.TheVariants.{Active, Finalizing, Finalized}
use Rattle.inclusion_graph.specs.declared.edge.Edge.{Edge}
use Rattle.inclusion_graph.specs.Edges.{HasEdge, edges_from, fresh, has, target_from, targets_of}
use Rattle.inclusion_graph.specs.Walks.{Reaches}
use Rattle.inclusion_graph.proofs.EdgeLemmas.{length_edges, others_edges, own, targets_are}
use Rattle.inclusion_graph.proofs.ListLemmas.{fresh_held, fresh_new, has_from}
use Rattle.inclusion_graph.proofs.WalkLemmas.{along}
use Rattle.finaliser.specs.Settling.{ReachesActive}
use Rattle.invocations.specs.declared.invocation.Invocation.{Invocation}
use Rattle.invocations.specs.Faults.{CanAdd}
use Rattle.invocations.specs.Rows.{IsInState, states_of, with_changed}
use Rattle.invocations.proofs.RowLemmas.{at_front, at_place, length_stays, table_changed, table_push}
use Rattle.invocation_world.specs.World.{World, IsCallMoment, IsInclusion, IsPair, IsRow, IsStage, IsUntil, IsValid, latest_deadline, with_row}
use Rattle.invocation_world.specs.Advancing.{AreQuiet}
use Rattle.invocation_world.specs.Changes.{updated}
use Rattle.invocation_world.proofs.RowFacts.{all_at, all_from, state_is, row_in, active≢finalizing, active≢finalized, changed_here, changed_other}
use Rattle.inclusion_graph.proofs.ReachLaws.{reaches_appended, reaches_split}
use Rattle.invocation_world.proofs.ReachFacts.{reach_over}
use Rattle.invocation_world.proofs.ValidFacts.{ahead_if_quiet, rows_later}

-- what stands at a place with one row more
state_placed : (state : State) (rows : List Invocation) (row : Invocation) (q : ℕ) → (row.state ≡ state → ⊥)
    → IsInState state (rows ++ row ∷ []) q → IsInState state rows q
state_placed state rows row q other is =
    let there = row_in state (rows ++ row ∷ []) q is in
    elim (at_place rows row there.0 q there.1) [
      | inl old ↦ state_is state rows q there.0 old there.2
      | inr new ↦ absurd (other (ap (λ (r : Invocation). r.state) new.1 ∙ there.2))
    ]

state_front : (state : State) (rows : List Invocation) (row : Invocation) (q : ℕ) → IsInState state rows q
    → IsInState state (rows ++ row ∷ []) q
state_front state rows row q is =
    let there = row_in state rows q is in
    state_is state (rows ++ row ∷ []) q there.0 (at_front rows row there.0 q there.1) there.2

-- nothing behind the rows is reached from them
reached_within : (n : ℕ) (edges : List Edge) → All (IsInclusion n) edges → (a b : ℕ) → a < n → Reaches edges a b → b < n
reached_within n edges joined a b low h =
    along edges (λ x. x < n)
    (λ x y so edge. (All-contains (IsInclusion n) edges (record { from = x; to = y }) joined edge).1)
    h.0 a b h.1 low

added_ended : (w : World) (row : Invocation) → IsValid w → row.state ≡ Active → (q : ℕ)
    → IsInState Finalized (w.invocations ++ row ∷ []) q
    → ReachesActive w.inclusions (states_of (w.invocations ++ row ∷ [])) q → ⊥
added_ended w row valid active q is h =
    let rows = w.invocations in
    let was : IsInState Finalized rows q = state_placed Finalized rows row q (λ e. active≢finalized (sym active ∙ e)) is in
    let here = row_in Finalized rows q was in
    let there = row_in Active (rows ++ row ∷ []) h.0 h.2 in
    elim (at_place rows row there.0 h.0 there.1) [
      | inl old ↦ valid.ended q was (h.0, h.1, state_is Active rows h.0 there.0 old there.2)
      | inr new ↦
          let low : h.0 < length rows = reached_within (length rows) w.inclusions valid.joined q h.0 (slice_get_within rows q here.0 here.1) h.1 in
          absurd (omega (arith, low, new.0))
    ]

pub valid_added : (w : World) (row : Invocation) → IsValid w → CanAdd w.invocations row.id → IsRow row.created row
    → row.state ≡ Active → IsCallMoment row.created → w.last ≤ℤ row.created → AreQuiet w.invocations row.created
    → IsValid (with_row w row)
valid_added w row valid can is active call later quiet = record {
  table = table_push w.invocations row valid.table can.0 can.1;
  last = call;
  rows = All-push (IsRow row.created) w.invocations row (rows_later w.last row.created w.invocations later quiet valid.rows) is;
  joined = All-weaker (IsInclusion (length w.invocations)) (IsInclusion (length (w.invocations ++ row ∷ [])))
      (λ edge h. (omega (arith, h.0, length_push w.invocations row), omega (arith, h.1, length_push w.invocations row), h.2))
      w.inclusions valid.joined;
  once = valid.once;
  few = valid.few;
  waiting = λ q waits.
      reach_over w.inclusions (states_of w.invocations) (states_of (w.invocations ++ row ∷ []))
      (λ n a. state_front Active w.invocations row n a) q
      (valid.waiting q (state_placed Finalizing w.invocations row q (λ e. active≢finalizing (sym active ∙ e)) waits));
  ended = λ q is' h. added_ended w row valid active q is' h;
}

-- states stay where a change leaves them
pub states_stay : (change : Invocation → Invocation) → ((row : Invocation) → (change row).state ≡ row.state)
    → (rows : List Invocation) (p : ℕ) → states_of (with_changed change rows p) ≡ states_of rows
states_stay change same [] p = refl
states_stay change same (x ∷ rows) zero = ap (λ s. s ∷ states_of rows) (same x)
states_stay change same (x ∷ rows) (suc p) = ap (λ ss. x.state ∷ ss) (states_stay change same rows p)

deadline_updated : (moment : ℤ) (deadline : Option ℤ) (stands : ℤ) → pos 0 ≤ℤ moment → moment <ℤ stands → IsUntil latest_deadline stands
    → ForSome deadline (λ given. (moment <ℤ given) × (given ≤ℤ latest_deadline))
    → (moment <ℤ unwrap_or deadline stands) × IsUntil latest_deadline (unwrap_or deadline stands)
deadline_updated moment None stands from ahead is given = (ahead, is)
deadline_updated moment (Some deadline) stands from ahead is given =
    let both = given deadline refl in (both.0, (omega (arith, ints, both.0, from), both.1))

tags_updated : (tags : Option (List Pair)) (stand : List Pair) → All IsPair stand → ForSome tags (All IsPair)
    → All IsPair (unwrap_or tags stand)
tags_updated None stand are given = are
tags_updated (Some tags) stand are given = given tags refl

stage_moved : (now : ℤ) (state : State) (deadline other : ℤ) (started finished : Option ℤ) → state ≡ Active → now <ℤ other
    → IsStage now state deadline started finished → IsStage now state other started finished
stage_moved now Active deadline other started finished active ahead h = (ahead, h.1, h.2)
stage_moved now Finalizing deadline other started finished active ahead h = h
stage_moved now Finalized deadline other started finished active ahead h = h

row_updated : (moment : ℤ) (deadline : Option ℤ) (tags : Option (List Pair)) (row : Invocation) → pos 0 ≤ℤ moment
    → ForSome deadline (λ given. (moment <ℤ given) × (given ≤ℤ latest_deadline)) → ForSome tags (All IsPair)
    → row.state ≡ Active → moment <ℤ row.deadline → IsRow moment row → IsRow moment (updated deadline tags row)
row_updated moment deadline tags row from given pairs active ahead is =
    let due = deadline_updated moment deadline row.deadline from ahead is.deadline given in
    record {
      id = is.id;
      realm = is.realm;
      creator = is.creator;
      created = is.created;
      deadline = due.1;
      stage = stage_moved moment row.state row.deadline (unwrap_or deadline row.deadline) row.started row.finished active due.0 is.stage;
      tags = tags_updated tags row.tags is.tags pairs;
    }

pub valid_updated : (w : World) (moment : ℤ) (p : ℕ) (deadline : Option ℤ) (tags : Option (List Pair)) → IsValid w
    → IsInState Active w.invocations p → ForSome deadline (λ given. (moment <ℤ given) × (given ≤ℤ latest_deadline))
    → ForSome tags (All IsPair) → IsCallMoment moment → w.last ≤ℤ moment → AreQuiet w.invocations moment
    → IsValid (record { invocations = with_changed (updated deadline tags) w.invocations p; inclusions = w.inclusions; last = moment })
valid_updated w moment p deadline tags valid active given pairs call later quiet =
    let rows = w.invocations in
    let new = with_changed (updated deadline tags) rows p in
    let states : states_of new ≡ states_of rows = states_stay (updated deadline tags) (λ row. refl) rows p in
    let here = row_in Active rows p active in
    let are = rows_later w.last moment rows later quiet valid.rows in
    record {
      table = table_changed (updated deadline tags) (λ row. refl) rows p valid.table;
      last = call;
      rows = all_from (IsRow moment) new
          (λ q row e. elim (cases_eq q p) [
            | inl same ↦
                let stands : slice_get new p ≡ Some row = subst (λ k. slice_get new k ≡ Some row) same e in
                let is : updated deadline tags here.0 ≡ row =
                same_Some (updated deadline tags here.0) row (sym (changed_here (updated deadline tags) rows p here.0 here.1) ∙ stands) in
                subst (IsRow moment) is
                (row_updated moment deadline tags here.0 call.0 given pairs here.2
                (ahead_if_quiet moment rows quiet p here.0 here.1 here.2) (all_at (IsRow moment) rows p here.0 are here.1))
            | inr other ↦ all_at (IsRow moment) rows q row are (sym (changed_other (updated deadline tags) rows p q other) ∙ e)
          ]);
      joined = subst (λ n. All (IsInclusion n) w.inclusions) (sym (length_stays (updated deadline tags) rows p)) valid.joined;
      once = valid.once;
      few = valid.few;
      waiting = subst (λ (ss : List State). (q : ℕ) → slice_get ss q ≡ Some Finalizing → ReachesActive w.inclusions ss q) (sym states) valid.waiting;
      ended = subst (λ (ss : List State). (q : ℕ) → slice_get ss q ≡ Some Finalized → ReachesActive w.inclusions ss q → ⊥) (sym states) valid.ended;
    }

-- targets among more edges
pub targets_appended : (edges new : List Edge) (node : ℕ) → targets_of (edges ++ new) node ≡ targets_of edges node ++ targets_of new node
targets_appended edges new node = filter_map-append (target_from node) edges new

pub targets_elsewhere : (edges : List Edge) (p node : ℕ) (ts : List ℕ) → p ≢ node
    → targets_of (edges ++ edges_from p ts) node ≡ targets_of edges node
targets_elsewhere edges p node ts away =
    targets_appended edges (edges_from p ts) node ∙ ap (λ xs. targets_of edges node ++ xs) (others_edges p node ts away)
    ∙ append-nil (targets_of edges node)

one_more : (edges : List Edge) (p n : ℕ) → targets_of (edges ++ record { from = p; to = n } ∷ []) p ≡ targets_of edges p ++ n ∷ []
one_more edges p n =
    targets_appended edges (record { from = p; to = n } ∷ []) p
    ∙ ap (λ xs. targets_of edges p ++ xs) (own (record { from = p; to = n }) [] p refl)

-- inclusions that aren't there yet leave each once
pub once_more_edges : (edges : List Edge) (p : ℕ) (ts : List ℕ) → AllPairs (λ (a b : Edge). a ≢ b) edges
    → AllPairs (λ (a b : Edge). a ≢ b) (edges ++ edges_from p (fresh (targets_of edges p) ts))
once_more_edges edges p [] once = subst (AllPairs (λ (a b : Edge). a ≢ b)) (sym (append-nil edges)) once
once_more_edges edges p (n ∷ ns) once =
    let held = targets_of edges p in
    let Once : List ℕ → Type 0 = λ ts. AllPairs (λ (a b : Edge). a ≢ b) (edges ++ edges_from p ts) in
    elim (cases_Bool (has held n)) [
      | inl there ↦ subst Once (sym (fresh_held held ns n there)) (once_more_edges edges p ns once)
      | inr new ↦
          let edge : Edge = record { from = p; to = n } in
          let apart_ : (k : ℕ) (d : Edge) → k < length edges → get_or edges k d ≢ edge = λ k d low same.
          let is : HasEdge edges p n = subst (Contains edges) same (Contains-get_or edges k d low) in
          false≢true (sym new ∙ has_from held n ((targets_are edges p n).1 is)) in
          let grown = once_more_edges (edges ++ edge ∷ []) p ns (all_pairs_push (λ (a b : Edge). a ≢ b) edges edge once apart_) in
          let rest = subst (λ hs. AllPairs (λ (a b : Edge). a ≢ b) ((edges ++ edge ∷ []) ++ edges_from p (fresh hs ns))) (one_more edges p n) grown in
          subst Once (sym (fresh_new held ns n new))
          (subst (AllPairs (λ (a b : Edge). a ≢ b)) (append_assoc edges (edge ∷ []) (edges_from p (fresh (held ++ n ∷ []) ns))) rest)
    ]

pub edges_all_from : (p : ℕ) (ts : List ℕ) → All (λ (e : Edge). e.from ≡ p) (edges_from p ts)
edges_all_from p ts = All-map (λ (e : Edge). e.from ≡ p) (λ t. record { from = p; to = t }) ts (λ k d low. refl)

included_ended : (w : World) (p : ℕ) (ts : List ℕ) → IsValid w → IsInState Active w.invocations p → (q : ℕ)
    → IsInState Finalized w.invocations q → ReachesActive (w.inclusions ++ edges_from p ts) (states_of w.invocations) q → ⊥
included_ended w p ts valid active q is h =
    elim (reaches_split w.inclusions (edges_from p ts) p (edges_all_from p ts) q h.0 h.1) [
      | inl walk ↦ valid.ended q is (h.0, walk, h.2)
      | inr walk ↦ valid.ended q is (p, walk, active)
    ]

pub valid_included : (w : World) (moment : ℤ) (p : ℕ) (ts : List ℕ) → IsValid w → IsInState Active w.invocations p
    → fresh (targets_of w.inclusions p) ts ≡ ts → All (λ t. t < length w.invocations) ts → All (λ t. t ≢ p) ts
    → length w.inclusions + length ts ≤ 262_144 → IsCallMoment moment → w.last ≤ℤ moment → AreQuiet w.invocations moment
    → IsValid (record { invocations = w.invocations; inclusions = w.inclusions ++ edges_from p ts; last = moment })
valid_included w moment p ts valid active new there elsewhere few call later quiet =
    let n = length w.invocations in
    let here = row_in Active w.invocations p active in
    let low : p < n = slice_get_within w.invocations p here.0 here.1 in
    record {
      table = valid.table;
      last = call;
      rows = rows_later w.last moment w.invocations later quiet valid.rows;
      joined = All-append (IsInclusion n) w.inclusions (edges_from p ts) valid.joined
          (All-map (IsInclusion n) (λ t. record { from = p; to = t }) ts
          (λ k d within. (low, there k d within, λ same. elsewhere k d within (sym same))));
      once = subst (λ (fs : List ℕ). AllPairs (λ (a b : Edge). a ≢ b) (w.inclusions ++ edges_from p fs)) new
          (once_more_edges w.inclusions p ts valid.once);
      few = omega (arith, few, length-append w.inclusions (edges_from p ts), length_edges p ts);
      waiting = λ q waits.
          let h = valid.waiting q waits in
          (h.0, reaches_appended w.inclusions (edges_from p ts) q h.0 h.1, h.2);
      ended = λ q is h. included_ended w p ts valid active q is h;
    }
