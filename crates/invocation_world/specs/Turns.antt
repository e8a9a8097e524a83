-- The code's own words: rows retired one after the other.
use Rattle.std.specs.Prelude.{◌≡◌, ℕ, suc, ℤ, List, [], ◌∷◌}
use Rattle.names_realms.specs.declared.states.State.{State}
use Rattle.names_realms.specs.declared.states.State.TheVariants.{Active, Finalizing, Finalized}
use Rattle.inclusion_graph.specs.declared.edge.Edge.{Edge}
use Rattle.invocations.specs.declared.invocation.Invocation.{Invocation}
use Rattle.invocations.specs.Due.{IsNextDue}
use Rattle.invocations.specs.Rows.{begun, with_changed}
use Rattle.invocation_world.specs.Advancing.{AreQuiet}
use Rattle.invocation_world.specs.Settling.{SettlesRows}

-- the next row that is due is begun at its deadline, and the rows settle at it, and so on with
-- these places, until nothing is due
abbrev pub RetiresInTurn : List Edge → ℤ → List Invocation → List ℕ → List Invocation → Type 0
RetiresInTurn inclusions moment rows [] after = AreQuiet rows moment × (after ≡ rows)
RetiresInTurn inclusions moment rows (place ∷ places) after =
    (row : Invocation) × IsNextDue rows moment place row
    × ((between : List Invocation)
    × SettlesRows row.deadline inclusions (with_changed (begun row.deadline) rows place) between
    × RetiresInTurn inclusions moment between places after)

-- some places lead there in turn
abbrev pub RunsTo : List Edge → ℤ → List Invocation → List Invocation → Type 0
RunsTo inclusions moment rows after =
    (places : List ℕ) × RetiresInTurn inclusions moment rows places after

-- how many are active
abbrev pub active_count : List State → ℕ
active_count [] = 0
active_count (Active ∷ states) = suc (active_count states)
active_count (Finalizing ∷ states) = active_count states
active_count (Finalized ∷ states) = active_count states
