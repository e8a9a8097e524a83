-- Which rows are reached, over other states, and that it can be told whether an active one is.
use Rattle.std.proofs.Common.{◌≡◌, ◌⊎◌, ◌<◌, ℕ, zero, suc, List, length, Some, sym, ◌∙◌, subst, inl, inr, arith}
use Rattle.std.specs.List.{All, slice_get}
use Rattle.std.proofs.lemmas.Bool.{cases_eq}
use Rattle.std.proofs.lemmas.Option.{none-some, same_Some, slice_get_within}
use Rattle.std.proofs.lemmas.List.Elements.{All-contains}
use Rattle.names_realms.specs.declared.states.State.{State}
use Rattle.names_realms.specs.declared.states.State.TheVariants.{Active, Finalizing, Finalized}
use Rattle.inclusion_graph.specs.declared.edge.Edge.{Edge}
use Rattle.inclusion_graph.specs.Walks.{Reaches}
use Rattle.inclusion_graph.proofs.ReachLaws.{reaches_or_not}
use Rattle.inclusion_graph.proofs.WalkLemmas.{along}
use Rattle.finaliser.specs.Settling.{IsIn, ReachesActive}
use Rattle.invocation_world.specs.World.{IsInclusion}
use Rattle.invocation_world.proofs.RowFacts.{stands}

-- what is reached from a row is a row
pub reaches_row : (count : ℕ) (edges : List Edge) (a b : ℕ) → All (IsInclusion count) edges → a < count → Reaches edges a b → b < count
reaches_row count edges a b joined within h =
    along edges (λ x. x < count) (λ x y so edge. (All-contains (IsInclusion count) edges (record { from = x; to = y }) joined edge).1) h.0 a b
    h.1 within

-- the nodes that are active are others, and no more is reached
pub reach_over : (edges : List Edge) (states others : List State)
    → ((n : ℕ) → IsIn Active states n → IsIn Active others n) → (p : ℕ)
    → ReachesActive edges states p → ReachesActive edges others p
reach_over edges states others more p h = (h.0, h.1, more h.0 h.2)

told : (states : List State) (n : ℕ) (s : State) → slice_get states n ≡ Some s → IsIn Active states n ⊎ (IsIn Active states n → ⊥)
told states n Active e = inl e
told states n Finalizing e = inr (λ is. let same : Finalizing ≡ Active = same_Some Finalizing Active (sym e ∙ is) in cc)
told states n Finalized e = inr (λ is. let same : Finalized ≡ Active = same_Some Finalized Active (sym e ∙ is) in cc)

is_active_or_not : (states : List State) (n : ℕ) → IsIn Active states n ⊎ (IsIn Active states n → ⊥)
is_active_or_not states n =
    elim (stands states n) [
      | inl h ↦ told states n h.0 h.1
      | inr none ↦ inr (λ is. none-some Active (sym none ∙ is))
    ]

-- an active node below this is reached, or none
reached_below : (edges : List Edge) (states : List State) (p n : ℕ)
    → ReachesActive edges states p ⊎ ((m : ℕ) → m < n → Reaches edges p m → IsIn Active states m → ⊥)
reached_below edges states p zero = inr (λ m low walk is. absurd (omega arith))
reached_below edges states p (suc n) =
    elim (reached_below edges states p n) [
      | inl yes_ ↦ inl yes_
      | inr no_ ↦ elim (is_active_or_not states n) [
        | inr idle ↦ inr (λ m low walk is. elim (cases_eq m n) [ inl same ↦ idle (subst (IsIn Active states) same is) | inr other ↦ no_ m (omega arith) walk is ])
        | inl active ↦ elim (reaches_or_not edges p n) [
          | inl walk ↦ inl (n, walk, active)
          | inr never ↦ inr (λ m low walk is. elim (cases_eq m n) [ inl same ↦ never (subst (Reaches edges p) same walk) | inr other ↦ no_ m (omega arith) walk is ])
        ]
      ]
    ]

pub reaches_active_or_not : (edges : List Edge) (states : List State) (p : ℕ)
    → ReachesActive edges states p ⊎ (ReachesActive edges states p → ⊥)
reaches_active_or_not edges states p =
    elim (reached_below edges states p (length states)) [
      | inl yes_ ↦ inl yes_
      | inr no_ ↦ inr (λ h. no_ h.0 (slice_get_within states h.0 Active h.2) h.1 h.2)
    ]
