-- What holds of nodes that are retired together.
use Rattle.std.specs.Prelude.{◌≡◌, ℕ, ◌↔◌, List, [], ◌∷◌, ◌++◌, Contains, length, slice_get, slice_set}
use Rattle.names_realms.specs.declared.states.State.{State}
use Rattle.names_realms.specs.declared.states.State.TheVariants.{Finalizing}
use Rattle.inclusion_graph.specs.declared.edge.Edge.{Edge}
use Rattle.finaliser.specs.Settling.{IsIn, IsSettled, Settles}

-- These nodes are finalizing, and all else stays.
pub record Begins (nodes : List ℕ) (old new : List State) : Type 0 where
  pub begun : (node : ℕ) → Contains nodes node → IsIn Finalizing new node
  pub others : (node : ℕ) → (¬ Contains nodes node) → slice_get new node ≡ slice_get old node
  pub count : length new ≡ length old

-- The nodes are retired in turn, and after each the states settle. The nodes that become final are
-- listed in turn.
abbrev pub RetiresInTurn : List Edge → List State → List ℕ → List State → List ℕ → Type 0
RetiresInTurn edges old [] new finals = (new ≡ old) × (finals ≡ [])
RetiresInTurn edges old (node ∷ nodes) new finals =
    (next : List State) × ((first : List ℕ)
    × ((rest : List ℕ) × (Settles edges (slice_set old node Finalizing) next first
    × RetiresInTurn edges next nodes new rest × (finals ≡ first ++ rest))))

-- Where nothing is left to settle, nodes that are retired in turn leave what is left where all of
-- them begin at once and the states then settle, whatever the order. The same nodes become final.
abbrev pub InTurnIsAtOnce : Type 0
InTurnIsAtOnce =
    (edges : List Edge) (old begun new : List State) (nodes finals : List ℕ) → IsSettled edges old
    → Begins nodes old begun
    → RetiresInTurn edges old nodes new finals
    → (all : List ℕ) × (Settles edges begun new all
    × ((node : ℕ) → Contains all node ↔ Contains finals node))

-- States settle in one way.
abbrev pub SettlesInOneWay : Type 0
SettlesInOneWay =
    (edges : List Edge) (old one other : List State) (finals others : List ℕ)
    → Settles edges old one finals → Settles edges old other others
    → (one ≡ other) × (finals ≡ others)
