-- Lists of invocations.
use Rattle.std.specs.Prelude.{◌≡◌, ℕ, zero, suc, ℤ, ◌-◌, ◌≤◌, List, [], ◌∷◌, ◌++◌, Some, length, map, slice_get, Contains}
use Rattle.names_realms.specs.declared.pairs.Pair.{Pair}
use Rattle.names_realms.specs.declared.states.State.{State}
use Rattle.names_realms.specs.declared.states.State.TheVariants.{Finalizing, Finalized}
use Rattle.invocations.specs.declared.invocation.Invocation.{Invocation}

-- A table: its rows in order of creation, and for how many more rows there is room.
pub record TableState : Type 0 where
  pub rows : List Invocation
  pub spare : ℕ

-- The rows stay, and there is room for no fewer.
pub record IsRoomier (before after : TableState) : Type 0 where
  pub rows : after.rows ≡ before.rows
  pub spare : before.spare ≤ after.spare

-- The table with a row more, and with room for one less.
abbrev pub with_row : TableState → Invocation → TableState
with_row table row = record table {
  rows = table.rows ++ row ∷ [];
  spare = table.spare - 1;
}

abbrev pub ids_of : List Invocation → List (List ℕ)
ids_of rows = map (λ row. row.id) rows

abbrev pub states_of : List Invocation → List State
states_of rows = map (λ row. row.state) rows

-- Some row has this id.
abbrev pub HasId : List Invocation → List ℕ → Type 0
HasId rows id = Contains (ids_of rows) id

-- The row at this place, counted from 0, has this id.
abbrev pub IsPlaceOf : List Invocation → List ℕ → ℕ → Type 0
IsPlaceOf rows id place = slice_get (ids_of rows) place ≡ Some id

-- The row at this place is in this state.
abbrev pub IsInState : State → List Invocation → ℕ → Type 0
IsInState state rows place = slice_get (states_of rows) place ≡ Some state

-- No id stands at two places.
abbrev pub HasUniqueIds : List Invocation → Type 0
HasUniqueIds rows = (id : List ℕ) (i j : ℕ) → IsPlaceOf rows id i → IsPlaceOf rows id j → i ≡ j

-- What is so of the rows of every table.
pub record IsTable (rows : List Invocation) : Type 0 where
  pub unique : HasUniqueIds rows
  pub few : length rows ≤ 65_536

-- the rows with the one at this place changed
abbrev pub with_changed : (Invocation → Invocation) → List Invocation → ℕ → List Invocation
with_changed change [] place = []
with_changed change (row ∷ rows) zero = change row ∷ rows
with_changed change (row ∷ rows) (suc place) = row ∷ with_changed change rows place

-- the table with the row at this place changed
abbrev pub with_row_changed : (Invocation → Invocation) → TableState → ℕ → TableState
with_row_changed change table place =
    record table { rows = with_changed change table.rows place }

-- the row with its finalization begun at this moment
abbrev pub begun : ℤ → Invocation → Invocation
begun moment row = record row { state = Finalizing; started = Some moment }

-- the row with its finalization ended at this moment
abbrev pub ended : ℤ → Invocation → Invocation
ended moment row = record row { state = Finalized; finished = Some moment }

abbrev pub with_deadline : ℤ → Invocation → Invocation
with_deadline deadline row = record row { deadline = deadline }

abbrev pub with_tags : List Pair → Invocation → Invocation
with_tags tags row = record row { tags = tags }
