-- Lists of results.
use Rattle.std.specs.Prelude.{◌≡◌, ℕ, ◌≤◌, List, Some, length, map, slice_get, slice_index_or, Contains}
use Rattle.test_results.specs.declared.result.TestResult.{TestResult}
use Rattle.test_results.specs.Places.{places_of}

-- A table: its rows in order of arrival, and for how many more rows of each holder there is room.
pub record ResultsState : Type 0 where
  pub rows : List TestResult
  pub rooms : List ℕ

-- For how many more rows of this holder there is room.
abbrev pub room_for : ResultsState → ℕ → ℕ
room_for table holder = slice_index_or table.rooms holder 0

-- What names a result: its holder, its test's id and its own.
pub record Key : Type 0 where
  pub holder : ℕ
  pub test : List ℕ
  pub id : List ℕ

abbrev pub named : ℕ → List ℕ → List ℕ → Key
named holder test id = record { holder = holder; test = test; id = id }

abbrev pub key_of : TestResult → Key
key_of row = named row.holder row.test row.result

abbrev pub keys_of : List TestResult → List Key
keys_of rows = map key_of rows

abbrev pub holders_of : List TestResult → List ℕ
holders_of rows = map (λ row. row.holder) rows

-- The places of the rows of a holder.
abbrev pub places_in : List TestResult → ℕ → List ℕ
places_in rows holder = places_of (holders_of rows) holder

-- Some row has this key.
abbrev pub HasKey : List TestResult → Key → Type 0
HasKey rows key = Contains (keys_of rows) key

-- The row at this place, counted from 0, has this key.
abbrev pub IsPlaceOf : List TestResult → Key → ℕ → Type 0
IsPlaceOf rows key place = slice_get (keys_of rows) place ≡ Some key

-- No key stands at two places.
abbrev pub HasUniqueKeys : List TestResult → Type 0
HasUniqueKeys rows = (key : Key) (i j : ℕ) → IsPlaceOf rows key i → IsPlaceOf rows key j → i ≡ j

-- What is so of the rows of every table.
pub record IsTable (rows : List TestResult) : Type 0 where
  pub unique : HasUniqueKeys rows
  pub few : (holder : ℕ) → length (places_in rows holder) ≤ 100_000
