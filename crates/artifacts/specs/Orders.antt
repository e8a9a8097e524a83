-- The code's own words for places that are kept in the order of their keys.
use Rattle.std.specs.Prelude.{◌≡◌, ◌↔◌, ◌<◌, ℕ, min, List, [], ◌∷◌, length, slice_index_or, Contains}
use Rattle.std.specs.Ordering.{nat_cmp, ordering_then}
use Rattle.std.specs.Cmp.Lexicographic.{slice_cmp}
use Rattle.std.specs.declared.cmp.Ordering.{Ordering}
use Rattle.lists.specs.Orders.{IsRising}
use Rattle.names_realms.specs.declared.parents.Parent.{Parent}
use Rattle.names_realms.specs.declared.parents.Parent.TheVariants.{Invocation, Result as ResultParent}
use Rattle.artifacts.specs.declared.artifact.Artifact.{Artifact}
use Rattle.artifacts.specs.Artifacts.{Key, IsTable, keys_of, named, places_in}

-- invocations stand before results
abbrev pub rank_of : Parent → ℕ
rank_of (Invocation id) = 0
rank_of (ResultParent name) = 1

abbrev pub invocation_of : Parent → List ℕ
invocation_of (Invocation id) = id
invocation_of (ResultParent name) = name.invocation

abbrev pub test_of : Parent → List ℕ
test_of (Invocation id) = []
test_of (ResultParent name) = name.test

abbrev pub result_of : Parent → List ℕ
result_of (Invocation id) = []
result_of (ResultParent name) = name.result

-- these four, compared with those of a parent
abbrev pub parts_order : ℕ → List ℕ → List ℕ → List ℕ → Parent → Ordering
parts_order rank invocation test id parent =
    ordering_then (ordering_then (ordering_then (nat_cmp rank (rank_of parent))
    (slice_cmp nat_cmp invocation (invocation_of parent)))
    (slice_cmp nat_cmp test (test_of parent)))
    (slice_cmp nat_cmp id (result_of parent))

-- parents by rank, invocation, test and result
abbrev pub parent_order : Parent → Parent → Ordering
parent_order a b = parts_order (rank_of a) (invocation_of a) (test_of a) (result_of a) b

-- keys by holder, parent and id
abbrev pub key_order : Key → Key → Ordering
key_order a b =
    ordering_then (ordering_then (nat_cmp a.holder b.holder)
    (parent_order a.name.parent b.name.parent))
    (slice_cmp nat_cmp a.name.artifact b.name.artifact)

abbrev pub no_key : Key
no_key = named 0 (record { parent = Invocation []; artifact = [] })

abbrev pub key_at : List Key → ℕ → Key
key_at keys place = slice_index_or keys place no_key

abbrev pub parent_at : List Key → ℕ → Parent
parent_at keys place = (key_at keys place).name.parent

abbrev pub id_at : List Key → ℕ → List ℕ
id_at keys place = (key_at keys place).name.artifact

-- the key at a place, compared with a key
abbrev pub order_at : List Key → Key → ℕ → Ordering
order_at keys key place = key_order (key_at keys place) key

-- the keys at two places, compared
abbrev pub places_order : List Key → ℕ → ℕ → Ordering
places_order keys p q = key_order (key_at keys p) (key_at keys q)

-- the places of a holder, in the order of the keys
pub record IsKeyIndex (keys : List Key) (holder : ℕ) (places : List ℕ) : Type 0 where
  pub rising : IsRising (places_order keys) places
  pub all : (place : ℕ)
      → Contains places place ↔ ((place < length keys) × ((key_at keys place).holder ≡ holder))

-- so many first places, in the order of the keys
pub record IsFrontIndex (keys : List Key) (count : ℕ) (places : List ℕ) : Type 0 where
  pub rising : IsRising (places_order keys) places
  pub all : (place : ℕ) → Contains places place ↔ (place < count)
  pub length : length places ≡ count

-- rows with the places of each holder, in order of arrival and of the keys
pub record IsIndexed (rows : List Artifact) (arrived named : List (List ℕ)) : Type 0 where
  pub table : IsTable rows
  pub places : (holder : ℕ) → slice_index_or arrived holder [] ≡ places_in rows holder
  pub index : (holder : ℕ) → IsKeyIndex (keys_of rows) holder (slice_index_or named holder [])

-- room that is there in both lists of a holder, and for the rows themselves
abbrev pub least_rooms : ℕ → List ℕ → List ℕ → List ℕ
least_rooms spare [] others = []
least_rooms spare (room ∷ rooms) [] = []
least_rooms spare (room ∷ rooms) (other ∷ others) =
    min spare (min room other) ∷ least_rooms spare rooms others
