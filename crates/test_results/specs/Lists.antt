-- The code's own words for lists of places.
use Rattle.std.specs.Prelude.{◌-◌, ℕ, min, List, [], map, slice_index_or, Vec, vec_len, vec_capacity}
use Rattle.std.specs.declared.alloc.Global.{Global}

-- the list of each holder, and for how many more places there is room in it
pub record ListsState : Type 0 where
  pub lists : List (List ℕ)
  pub rooms : List ℕ

abbrev pub list_of : ListsState → ℕ → List ℕ
list_of state holder = slice_index_or state.lists holder []

abbrev pub room_of : ListsState → ℕ → ℕ
room_of state holder = slice_index_or state.rooms holder 0

abbrev pub items_of : Vec ℕ Global → List ℕ
items_of list = list.items

abbrev pub spare_of : Vec ℕ Global → ℕ
spare_of list = vec_capacity list - vec_len list

abbrev pub lists_in : List (Vec ℕ Global) → List (List ℕ)
lists_in lists = map items_of lists

abbrev pub rooms_in : List (Vec ℕ Global) → List ℕ
rooms_in lists = map spare_of lists

-- room that is there in the list of a holder, and for the rows themselves
abbrev pub least_rooms : ℕ → List ℕ → List ℕ
least_rooms spare rooms = map (λ (room : ℕ). min spare room) rooms
