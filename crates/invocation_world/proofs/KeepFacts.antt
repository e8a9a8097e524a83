-- Each change of a valid world gives a valid one.
use Rattle.std.proofs.Common.{◌≡◌, ◌≢◌, ◌<◌, ◌≤◌, ◌+◌, ℕ, ℤ, ◌≤ℤ◌, ◌<ℤ◌, cond, List, [], ◌∷◌, length, Option, refl, sym, ap, ◌∙◌, subst, inl, inr}
use Rattle.std.specs.List.{All}
use Rattle.std.specs.Option.{ForSome}
use Rattle.std.proofs.lemmas.Bool.{cases_Bool, cond-true, cond-false}
use Rattle.std.proofs.lemmas.List.Elements.{All-weaker}
use Rattle.names_realms.specs.declared.pairs.Pair.{Pair}
use Rattle.names_realms.specs.declared.states.State.TheVariants.{Active}
use Rattle.inclusion_graph.specs.Edges.{edges_from, fresh, targets_of}
use Rattle.inclusion_graph.proofs.ListLemmas.{fresh_within}
use Rattle.invocations.specs.declared.invocation.Invocation.{Invocation}
use Rattle.invocations.specs.Faults.{CanAdd}
use Rattle.invocations.specs.Rows.{IsInState, with_changed}
use Rattle.invocation_world.specs.World.{World, IsCallMoment, IsPair, IsRow, IsValid, latest_deadline, with_row}
use Rattle.invocation_world.specs.Advancing.{IsQuiet}
use Rattle.invocation_world.specs.Changes.{is_update, updated, with_begun, with_edges, with_inclusions, with_moment, with_row_updated, with_update}
use Rattle.invocation_world.specs.Settling.{Settles}
use Rattle.invocation_world.proofs.ChangeFacts.{valid_added, valid_included, valid_updated}
use Rattle.invocation_world.proofs.CodeFacts.{fresh_twice}
use Rattle.invocation_world.proofs.RowFacts.{row_in}
use Rattle.invocation_world.proofs.ValidFacts.{valid_later, valid_retired}
use Rattle.invocation_world.proofs.WorldFacts.{same_world}

-- a valid world that may change at this moment
pub record MayChange (moment : ℤ) (w : World) : Type 0 where
  pub valid : IsValid w
  pub call : IsCallMoment moment
  pub later : w.last ≤ℤ moment
  pub quiet : IsQuiet w moment

pub keeps_added : (moment : ℤ) (w : World) (row : Invocation) → MayChange moment w → CanAdd w.invocations row.id → IsRow moment row
    → row.state ≡ Active → row.created ≡ moment → IsValid (with_row w row)
keeps_added moment w row h can is active at =
    let same = sym at in
    valid_added w row h.valid can (subst (λ t. IsRow t row) same is) active (subst IsCallMoment same h.call)
    (subst (λ t. w.last ≤ℤ t) same h.later) (subst (IsQuiet w) same h.quiet)

pub keeps_retired : (moment : ℤ) (w : World) (p : ℕ) (after : World) → MayChange moment w → IsInState Active w.invocations p
    → Settles moment (with_begun moment p w) after → IsValid after
keeps_retired moment w p after h active s =
    subst IsValid
    (same_world (record { invocations = after.invocations; inclusions = w.inclusions; last = moment }) after refl (sym s.inclusions) (sym s.last))
    (valid_retired w moment p after.invocations h.valid h.call h.later h.quiet active s.rows)

pub keeps_updated : (moment : ℤ) (w : World) (p : ℕ) (deadline : Option ℤ) (tags : Option (List Pair)) → MayChange moment w
    → IsInState Active w.invocations p → ForSome deadline (λ given. (moment <ℤ given) × (given ≤ℤ latest_deadline))
    → ForSome tags (All IsPair) → IsValid (with_update moment p deadline tags w)
keeps_updated moment w p deadline tags h active given pairs =
    let here = row_in Active w.invocations p active in
    let moved : World = record {
      invocations = with_changed (updated deadline tags) w.invocations p;
      inclusions = w.inclusions;
      last = moment;
    } in
    let is : with_update moment p deadline tags w ≡ cond (is_update deadline tags here.0) moved w =
    ap (with_row_updated moment p deadline tags w) here.1 in
    elim (cases_Bool (is_update deadline tags here.0)) [
      | inl yes_ ↦ subst IsValid (sym (is ∙ cond-true (is_update deadline tags here.0) moved w yes_))
          (valid_updated w moment p deadline tags h.valid active given pairs h.call h.later h.quiet)
      | inr no_ ↦ subst IsValid (sym (is ∙ cond-false (is_update deadline tags here.0) moved w no_)) h.valid
    ]

keeps_edges : (moment : ℤ) (w : World) (p : ℕ) (ts : List ℕ) → MayChange moment w → IsInState Active w.invocations p
    → fresh (targets_of w.inclusions p) ts ≡ ts → All (λ t. t < length w.invocations) ts → All (λ t. t ≢ p) ts
    → length w.inclusions + length ts ≤ 262_144 → IsValid (with_edges moment (edges_from p ts) w)
keeps_edges moment w p [] h active new there elsewhere few = h.valid
keeps_edges moment w p (t ∷ ts) h active new there elsewhere few =
    valid_included w moment p (t ∷ ts) h.valid active new there elsewhere few h.call h.later h.quiet

pub keeps_included : (moment : ℤ) (w : World) (p : ℕ) (targets : List ℕ) → MayChange moment w → IsInState Active w.invocations p
    → All (λ target. (target < length w.invocations) × (target ≢ p)) targets
    → length w.inclusions + length (fresh (targets_of w.inclusions p) targets) ≤ 262_144
    → IsValid (with_inclusions moment p targets w)
keeps_included moment w p targets h active are few =
    let Is : ℕ → Type 0 = λ t. (t < length w.invocations) × (t ≢ p) in
    let held = targets_of w.inclusions p in
    let all = fresh_within Is held targets are in
    keeps_edges moment w p (fresh held targets) h active (fresh_twice held targets)
    (All-weaker Is (λ t. t < length w.invocations) (λ t both. both.0) (fresh held targets) all)
    (All-weaker Is (λ t. t ≢ p) (λ t both. both.1) (fresh held targets) all) few

pub keeps_moment : (moment : ℤ) (w : World) → MayChange moment w → IsValid (with_moment moment w)
keeps_moment moment w h = valid_later w.invocations w.inclusions w.last moment h.valid h.call h.later h.quiet
