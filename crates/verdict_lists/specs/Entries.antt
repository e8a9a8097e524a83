-- The code's own words for reached results and exonerations in one list.
use Rattle.std.specs.Prelude.{◌↔◌, ℕ, List, ◌++◌, map, Contains}
use Rattle.std.specs.List.{flat_map}
use Rattle.std.specs.Ordering.{nat_cmp, ordering_then}
use Rattle.std.specs.Prelude.{Option, Some, None}
use Rattle.std.specs.declared.cmp.Ordering.{Ordering}
use Rattle.test_results.specs.Results.{places_in as result_places}
use Rattle.test_results.specs.Exonerations.{places_in as exoneration_places}
use Rattle.verdict_lists.specs.declared.entries.Entry.{Entry}
use Rattle.verdict_lists.specs.declared.entries.Entry.TheVariants.{Result, Exoneration}
use Rattle.verdict_lists.specs.declared.keys.Key.{Key as SeenKey}
use Rattle.verdict_lists.specs.World.{World, IsReachedResult, IsReachedExoneration}
use Rattle.lists.specs.Orders.{IsRising}
use Rattle.verdict_lists.specs.Orders.{Key, key_order, result_key_at, exoneration_key_at}

-- a key of the code
abbrev pub seen : SeenKey → Key
seen key = record {
  test = key.test.now;
  pairs = key.pairs.now;
  expected = key.expected;
  invocation = key.invocation.now;
  id = key.id.now;
  place = key.place;
}

abbrev pub entry_key : World → Entry → Key
entry_key world (Result place) = result_key_at world place
entry_key world (Exoneration place) = exoneration_key_at world place

abbrev pub kind_of : Entry → ℕ
kind_of (Result place) = 0
kind_of (Exoneration place) = 1

abbrev pub place_of : Entry → ℕ
place_of (Result place) = place
place_of (Exoneration place) = place

-- results first, and then by places
abbrev pub number_order : Entry → Entry → Ordering
number_order a b =
    ordering_then (nat_cmp (kind_of a) (kind_of b)) (nat_cmp (place_of a) (place_of b))

abbrev pub entry_order : World → Entry → Entry → Ordering
entry_order world a b =
    ordering_then (key_order (entry_key world a) (entry_key world b)) (number_order a b)

-- the rows that an invocation holds
abbrev pub entries_in : World → ℕ → List Entry
entries_in world holder =
    map Result (result_places world.results holder)
    ++ map Exoneration (exoneration_places world.exonerations holder)

abbrev pub entries_of : World → List ℕ → List Entry
entries_of world holders = flat_map (entries_in world) holders

-- what is reached
abbrev pub IsReachedEntry : World → List ℕ → Entry → Type 0
IsReachedEntry world roots (Result place) = IsReachedResult world roots place
IsReachedEntry world roots (Exoneration place) = IsReachedExoneration world roots place

-- all that is reached, in order
pub record AreReached (world : World) (roots : List ℕ) (entries : List Entry) : Type 0 where
  pub all : (entry : Entry) → Contains entries entry ↔ IsReachedEntry world roots entry
  pub rise : IsRising (entry_order world) entries

abbrev pub result_in : Entry → Option ℕ
result_in (Result place) = Some place
result_in (Exoneration place) = None

abbrev pub exoneration_in : Entry → Option ℕ
exoneration_in (Result place) = None
exoneration_in (Exoneration place) = Some place
