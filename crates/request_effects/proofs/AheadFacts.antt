-- What an effect leaves of the row that it is about.
use Rattle.std.proofs.Common.{◌≡◌, ◌≢◌, ◌<◌, ◌+◌, ◌++◌, ℕ, zero, suc, ℤ, Bool, true, false, IsTrue, List, [], ◌∷◌, length, take, get_or, Option, Some, None, option_map, nat_eq, refl, sym, ap, ◌∙◌, subst, inl, inr, arith, add-one}
use Rattle.std.specs.Prelude.{◌↔◌, slice_get}
use Rattle.std.specs.List.{All, cons_option, filter_map}
use Rattle.std.proofs.Math.Seq.{take-suc}
use Rattle.std.proofs.lemmas.Bool.{cases_Bool, cond-false}
use Rattle.std.proofs.lemmas.List.Elements.{All-head, All-tail, filter_map-append}
use Rattle.std.proofs.lemmas.Option.{same_Some, slice_get-map}
use Rattle.names_realms.specs.declared.pairs.Pair.{Pair}
use Rattle.names_realms.specs.declared.states.State.TheVariants.{Active}
use Rattle.inclusion_graph.specs.declared.edge.Edge.{Edge}
use Rattle.inclusion_graph.specs.Edges.{targets_of}
use Rattle.inclusion_graph.proofs.EdgeLemmas.{eqb_other}
use Rattle.invocations.specs.declared.invocation.Invocation.{Invocation}
use Rattle.invocations.specs.Rows.{IsInState, begun, ended, ids_of, with_changed}
use Rattle.invocations.proofs.RowLemmas.{at_end, ids_stay}
use Rattle.update_tokens.specs.Hash.{token_text}
use Rattle.request_rules.specs.RequestDemands.Settings.{Settings, secret_of}
use Rattle.request_rules.specs.RequestDemands.Understood.{token_for}
use Rattle.request_rules.specs.MessageForms.declared.replies.Reply.TheVariants as reply
use Rattle.request_rules.specs.InvocationForms.Shown.{InvocationShown}
use Rattle.invocation_world.specs.World.{World, IsInclusion, ReachesActive, with_row}
use Rattle.invocation_world.specs.Settling.{Settles}
use Rattle.invocation_world.specs.Changes.{updated, with_begun, with_update}
use Rattle.invocation_world.proofs.RowFacts.{active≢finalizing, changed_here, row_in}
use Rattle.invocation_world.proofs.SettleFacts.{begun_here, ended_or_same, row_stays}
use Rattle.service_effects.specs.declared.effect.Effect.{Effect}
use Rattle.service_effects.specs.declared.effect.Effect.TheVariants as does
use Rattle.service_effects.specs.Effects.{Does}
use Rattle.service_effects.specs.Fitting.{IsTimely, Suits}
use Rattle.request_effects.specs.Foreseen.{IsFinalTold, IsHere, ended_if}
use Rattle.request_effects.specs.Shows.{ids_at, reply_at, shown_with, token_at}
use Rattle.service_effects.proofs.EffectLaws.{stays_same, update_here}
use Rattle.service_effects.proofs.IdFacts.{ids_settled}

-- ---- ids

-- the ids of one place more
pub ids_more : (rows : List Invocation) (places : List ℕ) (i place : ℕ) (row : Invocation) (old new : List (List ℕ)) → i < length places
    → get_or places i place ≡ place → slice_get rows place ≡ Some row → old ≡ ids_at rows (take i places)
    → new ≡ old ++ row.id ∷ [] → new ≡ ids_at rows (take (i + 1) places)
ids_more rows places i place row old new lt at stands old_is new_is =
    let id : slice_get (ids_of rows) place ≡ Some row.id =
    slice_get-map (λ (r : Invocation). r.id) rows place ∙ ap (option_map (λ (r : Invocation). r.id)) stands in
    let f : ℕ → Option (List ℕ) = λ p. slice_get (ids_of rows) p in
    rw (add-one, take-suc places i place)
    (new_is ∙ (ap (λ (xs : List (List ℕ)). xs ++ row.id ∷ []) old_is
    ∙ (ap (λ (o : Option (List ℕ)). ids_at rows (take i places) ++ cons_option o []) (sym id)
    ∙ (ap (λ (p : ℕ). ids_at rows (take i places) ++ cons_option (f p) []) (sym at)
    ∙ sym (filter_map-append f (take i places) (get_or places i place ∷ []))))))

-- what stands at a place, whatever else would be said there
pub read_there : (xs : List ℕ) (i : ℕ) → i < length xs → get_or xs i (get_or xs i 0) ≡ get_or xs i 0
read_there [] i lt = absurd (omega (arith, lt))
read_there (x ∷ xs) zero lt = refl
read_there (x ∷ xs) (suc i) lt = read_there xs i (omega (arith, lt))

-- ---- a new row includes nothing

pub no_targets : (n : ℕ) (edges : List Edge) → All (IsInclusion n) edges → targets_of edges n ≡ []
no_targets n [] h = refl
no_targets n (e ∷ es) h =
    let here = All-head (IsInclusion n) e es h in
    let other : e.from ≢ n = λ same. absurd (omega (arith, here.0, same)) in
    ap (λ (o : Option ℕ). cons_option o (targets_of es n)) (cond-false (nat_eq e.from n) (Some e.to) None (eqb_other e.from n other))
    ∙ no_targets n es (All-tail (IsInclusion n) e es h)

-- ---- a row whose finalization begins

ended_so : (is_final : Bool) (moment : ℤ) (row : Invocation) → is_final ≡ true → ended_if is_final moment row ≡ ended moment row
ended_so true moment row e = refl
ended_so false moment row e = absurd cc

waits_so : (is_final : Bool) (moment : ℤ) (row : Invocation) → is_final ≡ false → ended_if is_final moment row ≡ row
waits_so true moment row e = absurd cc
waits_so false moment row e = refl

not_final : (is_final : Bool) → (is_final ≡ true → ⊥) → is_final ≡ false
not_final is_final never = elim (cases_Bool is_final) [ inl yes_ ↦ absurd (never yes_) | inr no_ ↦ no_ ]

pub end_stands : (moment : ℤ) (place : ℕ) (w after : World) (row : Invocation) (is_final : Bool) → slice_get w.invocations place ≡ Some row
    → IsInState Active w.invocations place → Settles moment (with_begun moment place w) after
    → IsTrue is_final ↔ ¬ ReachesActive (with_begun moment place w) place
    → slice_get after.invocations place ≡ Some (ended_if is_final moment (begun moment row))
end_stands moment place w after row is_final here active s tells =
    let mid = with_changed (begun moment) w.invocations place in
    let there : slice_get mid place ≡ Some (begun moment row) = changed_here (begun moment) w.invocations place row here in
    elim (ended_or_same moment w.inclusions mid after.invocations s.rows place) [
      | inl h ↦
          h.stands ∙ (ap (λ (r : Invocation). Some (ended moment r)) (same_Some h.row (begun moment row) (sym h.stood ∙ there))
          ∙ ap (λ (r : Invocation). Some r) (sym (ended_so is_final moment (begun moment row) (tells.1 h.alone))))
      | inr same ↦
          let waits : is_final ≡ true → ⊥ = λ final.
          same.0 ((s.rows.all place).1 (begun_here moment w.invocations place active, tells.0 final)) in
          same.1 ∙ (there ∙ ap (λ (r : Invocation). Some r) (sym (waits_so is_final moment (begun moment row) (not_final is_final waits))))
    ]

-- its inclusions and ids stay
pub end_ids : (moment : ℤ) (place : ℕ) (w after : World) → Settles moment (with_begun moment place w) after
    → ids_of after.invocations ≡ ids_of w.invocations
end_ids moment place w after s =
    ids_settled moment w.inclusions (with_changed (begun moment) w.invocations place) after.invocations s.rows
    ∙ ids_stay (begun moment) (λ r. refl) w.invocations place

-- what is included is told by ids that stay
pub ids_as : (old new : List Invocation) (places : List ℕ) → ids_of new ≡ ids_of old → ids_at old places ≡ ids_at new places
ids_as old new places same = ap (λ (all : List (List ℕ)). filter_map (λ (p : ℕ). slice_get all p) places) (sym same)

-- ---- what will stand at the place that an effect is about

module _ (w : World) (moment : ℤ) (effect : Effect) (after : World) (place : ℕ) where
  pub nothing_stands : (row seen : Invocation) → effect ≡ does.Nothing → IsTimely w moment → slice_get w.invocations place ≡ Some row → seen ≡ row
      → Does moment effect w after → slice_get after.invocations place ≡ Some seen
  nothing_stands row seen is timely here seen_is acts =
      ap (λ (v : World). slice_get v.invocations place) (stays_same w after moment effect timely acts is)
      ∙ (here ∙ ap (λ (r : Invocation). Some r) (sym seen_is))

  pub added_stands : (row seen : Invocation) → effect ≡ does.Add row → Suits w moment effect → IsHere w effect place → seen ≡ row
      → Does moment effect w after → slice_get after.invocations place ≡ Some seen
  added_stands row seen is may here seen_is acts =
      let at : place ≡ length w.invocations = subst (λ (e : Effect). IsHere w e place) is here in
      let new = subst (Suits w moment) is may in
      let settles : Settles moment (with_row w row) after = subst (λ (e : Effect). Does moment e w after) is acts in
      let rows = w.invocations ++ row ∷ [] in
      let there : slice_get rows place ≡ Some row =
      subst (λ (p : ℕ). slice_get rows p ≡ Some row) (sym at) (at_end w.invocations row) in
      row_stays moment w.inclusions rows after.invocations settles.rows place row there
      (λ other. active≢finalizing (sym new.active ∙ other))
      ∙ ap (λ (r : Invocation). Some r) (sym seen_is)

  pub updated_stands : (at : ℕ) (deadline : Option ℤ) (tags : Option (List Pair)) (row seen : Invocation) → effect ≡ does.Update at deadline tags
      → Suits w moment effect → IsHere w effect place → slice_get w.invocations place ≡ Some row → seen ≡ updated deadline tags row
      → Does moment effect w after → slice_get after.invocations place ≡ Some seen
  updated_stands at deadline tags row seen is may own here seen_is acts =
      let same : place ≡ at = subst (λ (e : Effect). IsHere w e place) is own in
      let new = subst (Suits w moment) is may in
      let settles : Settles moment (with_update moment at deadline tags w) after = subst (λ (e : Effect). Does moment e w after) is acts in
      let moved : World = record {
        invocations = with_changed (updated deadline tags) w.invocations at;
        inclusions = w.inclusions;
        last = moment;
      } in
      let s : Settles moment moved after =
      subst (λ (v : World). Settles moment v after) (update_here moment at deadline tags w new.row new.stands new.other) settles in
      let stood : slice_get w.invocations at ≡ Some row = subst (λ (p : ℕ). slice_get w.invocations p ≡ Some row) same here in
      let is_active = row_in Active w.invocations at new.active in
      let active : row.state ≡ Active = ap (λ (r : Invocation). r.state) (same_Some row is_active.0 (sym stood ∙ is_active.1)) ∙ is_active.2 in
      ap (slice_get after.invocations) same
      ∙ (row_stays moment w.inclusions moved.invocations after.invocations s.rows at (updated deadline tags row)
      (changed_here (updated deadline tags) w.invocations at row stood) (λ other. active≢finalizing (sym active ∙ other))
      ∙ ap (λ (r : Invocation). Some r) (sym seen_is))

  pub ended_stands : (at : ℕ) (row seen : Invocation) (is_final : Bool) → effect ≡ does.End at → Suits w moment effect
      → IsFinalTold w moment effect is_final → IsHere w effect place → slice_get w.invocations place ≡ Some row
      → seen ≡ ended_if is_final moment (begun moment row)
      → Does moment effect w after → slice_get after.invocations place ≡ Some seen
  ended_stands at row seen is_final is may told own here seen_is acts =
      let same : place ≡ at = subst (λ (e : Effect). IsHere w e place) is own in
      let stood : slice_get w.invocations at ≡ Some row = subst (λ (p : ℕ). slice_get w.invocations p ≡ Some row) same here in
      ap (slice_get after.invocations) same
      ∙ (end_stands moment at w after row is_final stood (subst (Suits w moment) is may)
      (subst (λ (e : Effect). Does moment e w after) is acts) (subst (λ (e : Effect). IsFinalTold w moment e is_final) is told)
      ∙ ap (λ (r : Invocation). Some r) (sym seen_is))

  -- and what it will include: these places, whose ids stay
  abbrev pub Includes : List ℕ → Type 0
  Includes targets = (targets ≡ targets_of after.inclusions place) × (ids_at w.invocations targets ≡ ids_at after.invocations targets)

  includes_as : (targets : List ℕ) → after.inclusions ≡ w.inclusions → ids_of after.invocations ≡ ids_of w.invocations
      → targets ≡ targets_of w.inclusions place → Includes targets
  includes_as targets edges ids is =
      (is ∙ ap (λ (es : List Edge). targets_of es place) (sym edges), ids_as w.invocations after.invocations targets ids)

  pub nothing_includes : (targets : List ℕ) → effect ≡ does.Nothing → IsTimely w moment → targets ≡ targets_of w.inclusions place
      → Does moment effect w after → Includes targets
  nothing_includes targets is timely targets_are acts =
      let same = stays_same w after moment effect timely acts is in
      includes_as targets (ap (λ (v : World). v.inclusions) same) (ap (λ (v : World). ids_of v.invocations) same) targets_are

  pub added_includes : (row : Invocation) → effect ≡ does.Add row → IsTimely w moment → IsHere w effect place
      → Does moment effect w after → Includes []
  added_includes row is timely here acts =
      let at : place ≡ length w.invocations = subst (λ (e : Effect). IsHere w e place) is here in
      let settles : Settles moment (with_row w row) after = subst (λ (e : Effect). Does moment e w after) is acts in (
        sym (ap (λ (es : List Edge). targets_of es place) settles.inclusions
            ∙ (ap (targets_of w.inclusions) at ∙ no_targets (length w.invocations) w.inclusions timely.valid.joined)),
        refl,
      )

  pub updated_includes : (at : ℕ) (deadline : Option ℤ) (tags : Option (List Pair)) (targets : List ℕ) → effect ≡ does.Update at deadline tags
      → Suits w moment effect → targets ≡ targets_of w.inclusions place → Does moment effect w after → Includes targets
  updated_includes at deadline tags targets is may targets_are acts =
      let new = subst (Suits w moment) is may in
      let moved : World = record {
        invocations = with_changed (updated deadline tags) w.invocations at;
        inclusions = w.inclusions;
        last = moment;
      } in
      let s : Settles moment moved after =
      subst (λ (v : World). Settles moment v after) (update_here moment at deadline tags w new.row new.stands new.other)
      (subst (λ (e : Effect). Does moment e w after) is acts) in
      includes_as targets s.inclusions
      (ids_settled moment w.inclusions moved.invocations after.invocations s.rows ∙ ids_stay (updated deadline tags) (λ r. refl) w.invocations at)
      targets_are

  pub ended_includes : (at : ℕ) (targets : List ℕ) → effect ≡ does.End at → targets ≡ targets_of w.inclusions place
      → Does moment effect w after → Includes targets
  ended_includes at targets is targets_are acts =
      let settles : Settles moment (with_begun moment at w) after = subst (λ (e : Effect). Does moment e w after) is acts in
      includes_as targets settles.inclusions (end_ids moment at w after settles) targets_are

-- ---- what is shown

-- the row at a place as it will be, and the ids of what it will include, are what is shown of it
pub shown_so : (w after : World) (place : ℕ) (seen : Invocation) (targets : List ℕ) (ids : List (List ℕ)) (s : InvocationShown)
    → slice_get after.invocations place ≡ Some seen
    → (targets ≡ targets_of after.inclusions place) × (ids_at w.invocations targets ≡ ids_at after.invocations targets)
    → ids ≡ ids_at w.invocations targets → s ≡ shown_with seen ids
    → reply.Invocation s ≡ reply_at after place (slice_get after.invocations place)
shown_so w after place seen targets ids s stands includes ids_are is =
    let all : ids ≡ ids_at after.invocations (targets_of after.inclusions place) =
    ids_are ∙ (includes.1 ∙ ap (ids_at after.invocations) includes.0) in
    ap (λ (x : InvocationShown). reply.Invocation x) (is ∙ ap (shown_with seen) all)
    ∙ ap (reply_at after place) (sym stands)

-- and its update token is told by its id
pub token_so : (s : Settings) (found : Option Invocation) (seen : Invocation) (id secret token : List ℕ) → found ≡ Some seen
    → seen.id ≡ id → secret ≡ secret_of s → token ≡ token_text secret id → token_at s found ≡ Some token
token_so s found seen id secret token stands id_is secret_is token_is =
    ap (token_at s) stands
    ∙ ap (λ (t : List ℕ). Some t)
    (ap (token_for s) id_is ∙ (ap (λ (x : List ℕ). token_text x id) (sym secret_is) ∙ sym token_is))
