-- The code's own words for places that are kept in the order of their keys.
use Rattle.std.specs.Prelude.{◌≡◌, ◌↔◌, ◌<◌, ℕ, List, [], length, slice_index_or, Contains}
use Rattle.std.specs.Ordering.{nat_cmp, ordering_then}
use Rattle.std.specs.Cmp.Lexicographic.{slice_cmp}
use Rattle.std.specs.declared.cmp.Ordering.{Ordering}
use Rattle.lists.specs.Orders.{IsRising}
use Rattle.hash_chains.specs.Chains.{ChainsState}
use Rattle.test_results.specs.declared.result.TestResult.{TestResult}
use Rattle.test_results.specs.Hashes.{IsHashed}
use Rattle.test_results.specs.Results.{Key, IsTable, named, places_in}

-- keys by holder, id and test: ids differ sooner than tests, which often begin alike
abbrev pub key_order : Key → Key → Ordering
key_order a b =
    ordering_then (ordering_then (nat_cmp a.holder b.holder) (slice_cmp nat_cmp a.id b.id))
    (slice_cmp nat_cmp a.test b.test)

abbrev pub no_key : Key
no_key = named 0 [] []

abbrev pub key_at : List Key → ℕ → Key
key_at keys place = slice_index_or keys place no_key

-- the key at a place, compared with a key
abbrev pub order_at : List Key → Key → ℕ → Ordering
order_at keys key place = key_order (key_at keys place) key

-- the keys at two places, compared
abbrev pub places_order : List Key → ℕ → ℕ → Ordering
places_order keys p q = key_order (key_at keys p) (key_at keys q)

-- so many first places, in the order of the keys
pub record IsFrontIndex (keys : List Key) (count : ℕ) (places : List ℕ) : Type 0 where
  pub rising : IsRising (places_order keys) places
  pub all : (place : ℕ) → Contains places place ↔ (place < count)
  pub length : length places ≡ count

-- rows with the places of each holder, in order of arrival, and with those of the keys
pub record IsIndexed (rows : List TestResult) (arrived : List (List ℕ)) (found : ChainsState)
    : Type 0 where
  pub table : IsTable rows
  pub places : (holder : ℕ) → slice_index_or arrived holder [] ≡ places_in rows holder
  pub chained : IsHashed rows found
