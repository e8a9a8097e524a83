-- The code's own words for marks of nodes, and for states.
use Rattle.std.specs.Prelude.{◌≡◌, ℕ, suc, Bool, true, false, List, [], ◌∷◌, slice_index_or}
use Rattle.names_realms.specs.declared.states.State.{State}
use Rattle.names_realms.specs.declared.states.State.TheVariants.{Active, Finalizing, Finalized}

abbrev pub Marks : List Bool → ℕ → Type 0
Marks marks node = slice_index_or marks node false ≡ true

abbrev pub unmarked : List Bool → ℕ
unmarked [] = 0
unmarked (true ∷ marks) = unmarked marks
unmarked (false ∷ marks) = suc (unmarked marks)

abbrev pub unfinal : List State → ℕ
unfinal [] = 0
unfinal (Active ∷ states) = suc (unfinal states)
unfinal (Finalizing ∷ states) = suc (unfinal states)
unfinal (Finalized ∷ states) = unfinal states
