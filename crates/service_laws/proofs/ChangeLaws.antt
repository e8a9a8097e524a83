-- What is so of rows over an effect.
use Rattle.std.proofs.Common.{◌≡◌, ℕ, ℤ, List, [], ◌∷◌, ◌++◌, Option, sym, subst}
use Rattle.names_realms.specs.declared.pairs.Pair.{Pair}
use Rattle.names_realms.specs.declared.states.State.TheVariants.{Active}
use Rattle.inclusion_graph.specs.declared.edge.Edge.{Edge}
use Rattle.inclusion_graph.specs.Edges.{edges_from}
use Rattle.invocations.specs.declared.invocation.Invocation.{Invocation}
use Rattle.invocations.specs.Rows.{IsInState, begun, with_changed}
use Rattle.invocation_world.specs.World.{World}
use Rattle.invocation_world.specs.Changes.{updated, with_edges}
use Rattle.service_effects.specs.declared.effect.Effect.{Effect}
use Rattle.service_effects.specs.declared.effect.Effect.TheVariants as does
use Rattle.service_effects.specs.Effects.{with_effect}
use Rattle.service_effects.specs.Fitting.{Suits}
use Rattle.service_effects.proofs.EffectLaws.{update_here}

-- It holds of rows and what each kind of effect makes of them.
pub record Kept (Holds : List Invocation → List Invocation → Type 0) (moment : ℤ) (rows : List Invocation) : Type 0 where
  pub when_same : Holds rows rows
  pub when_added : (new : Invocation) → new.state ≡ Active → Holds rows (rows ++ new ∷ [])
  pub when_updated : (deadline : Option ℤ) (tags : Option (List Pair)) (p : ℕ) → IsInState Active rows p
      → Holds rows (with_changed (updated deadline tags) rows p)
  pub when_begun : (p : ℕ) → IsInState Active rows p → Holds rows (with_changed (begun moment) rows p)

pub edges_keep : (Holds : List Invocation → List Invocation → Type 0) (moment : ℤ) (w : World) (edges : List Edge)
    → Holds w.invocations w.invocations → Holds w.invocations (with_edges moment edges w).invocations
edges_keep Holds moment w [] same = same
edges_keep Holds moment w (edge ∷ edges) same = same

pub effect_keeps : (Holds : List Invocation → List Invocation → Type 0) (w : World) (moment : ℤ) (effect : Effect)
    → Suits w moment effect → Kept Holds moment w.invocations → Holds w.invocations (with_effect moment effect w).invocations
effect_keeps Holds w moment does.Nothing may kept = kept.when_same
effect_keeps Holds w moment (does.Add row) may kept = kept.when_added row may.active
effect_keeps Holds w moment (does.Update place deadline tags) may kept =
    subst (λ (v : World). Holds w.invocations v.invocations) (sym (update_here moment place deadline tags w may.row may.stands may.other))
    (kept.when_updated deadline tags place may.active)
effect_keeps Holds w moment (does.End place) may kept = kept.when_begun place may
effect_keeps Holds w moment (does.Include plan) may kept =
    edges_keep Holds moment w (edges_from plan.from plan.targets) kept.when_same
effect_keeps Holds w moment (does.Results batch) may kept = kept.when_same
effect_keeps Holds w moment (does.Exonerations batch) may kept = kept.when_same
effect_keeps Holds w moment (does.Artifacts batch) may kept = kept.when_same
