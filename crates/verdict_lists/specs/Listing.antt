-- The list of reached results.
use Rattle.std.specs.Prelude.{◌↔◌, ℕ, List, Contains}
use Rattle.std.specs.Ordering.{nat_cmp, ordering_then}
use Rattle.std.specs.Cmp.Lexicographic.{slice_cmp}
use Rattle.std.specs.declared.cmp.Ordering.{Ordering}
use Rattle.verdict_lists.specs.World.{World, IsReachedResult}
use Rattle.lists.specs.Orders.{IsRising}
use Rattle.verdict_lists.specs.Orders.{Key, result_key_at}

abbrev pub names_order : Key → Key → Ordering
names_order a b =
    ordering_then (slice_cmp nat_cmp a.invocation b.invocation)
    (ordering_then (slice_cmp nat_cmp a.test b.test) (slice_cmp nat_cmp a.id b.id))

-- Results by the id of the invocation that holds one, its test's id and its own. Their places would
-- come last: in a table no two results agree in all the rest.
abbrev pub listed_order : World → ℕ → ℕ → Ordering
listed_order world p q =
    ordering_then (names_order (result_key_at world p) (result_key_at world q)) (nat_cmp p q)

-- All reached results, each once, and in order.
pub record AreListed (world : World) (roots places : List ℕ) : Type 0 where
  pub all : (place : ℕ) → Contains places place ↔ IsReachedResult world roots place
  pub rise : IsRising (listed_order world) places
