-- Verdicts: what each is, and which list of them a world has.
use Rattle.std.specs.Prelude.{◌≡◌, ◌↔◌, ◌<◌, ℕ, Bool, true, false, List, [], ◌∷◌, ◌++◌, length, count_by, Contains, All, Any}
use Rattle.std.specs.Ordering.{nat_cmp, ordering_then, is_eq}
use Rattle.std.specs.Cmp.Lexicographic.{slice_cmp}
use Rattle.std.specs.declared.cmp.Ordering.{Ordering}
use Rattle.names_realms.specs.Variants.{label_of}
use Rattle.verdict_lists.specs.declared.verdict.Verdict.{Verdict}
use Rattle.verdict_lists.specs.World.{World, IsReachedResult, IsReachedExoneration, results_at}
use Rattle.lists.specs.Orders.{IsRising}
use Rattle.verdict_lists.specs.Orders.{Key, no_key, result_key_at, exoneration_key_at, pairs_order, result_order, exoneration_order}
use Rattle.verdict_lists.specs.Statuses.{status_number, status_of}

-- the key of the first of the results at these places
abbrev pub first_key : World → List ℕ → Key
first_key world [] = no_key
first_key world (place ∷ places) = result_key_at world place

-- the test and the pairs of a verdict are those of its results
abbrev pub verdict_key : World → Verdict → Key
verdict_key world verdict = first_key world verdict.results

-- the same test, and the same pairs
abbrev pub IsAlike : Key → Key → Type 0
IsAlike a b = (a.test ≡ b.test) × (a.pairs ≡ b.pairs)

abbrev pub is_some : List ℕ → Bool
is_some [] = false
is_some (place ∷ places) = true

-- A verdict is all reached results of one test with one variant, of which there is one at least,
-- with all reached exonerations of this test and variant, each once and in order.
pub record IsVerdict (world : World) (roots : List ℕ) (verdict : Verdict) : Type 0 where
  pub there : 0 < length verdict.results
  pub results : (place : ℕ) → Contains verdict.results place
      ↔ (IsReachedResult world roots place
      × IsAlike (verdict_key world verdict) (result_key_at world place))
  pub exonerations : (place : ℕ) → Contains verdict.exonerations place
      ↔ (IsReachedExoneration world roots place
      × IsAlike (verdict_key world verdict) (exoneration_key_at world place))
  pub results_rise : IsRising (result_order world) verdict.results
  pub exonerations_rise : IsRising (exoneration_order world) verdict.exonerations
  pub status : verdict.status
      ≡ status_of (is_some verdict.exonerations) (results_at world.results verdict.results)
  pub label : verdict.label ≡ label_of (verdict_key world verdict).pairs

-- By the number of the status, then by the test's id, then by the label.
abbrev pub fronts_order : Verdict → List ℕ → Verdict → List ℕ → Ordering
fronts_order a test b other =
    ordering_then (nat_cmp (status_number a.status) (status_number b.status))
    (ordering_then (slice_cmp nat_cmp test other) (slice_cmp nat_cmp a.label b.label))

abbrev pub front_order : World → Verdict → Verdict → Ordering
front_order world a b = fronts_order a (verdict_key world a).test b (verdict_key world b).test

-- Then by the pairs of the variant.
abbrev pub verdict_order : World → Verdict → Verdict → Ordering
verdict_order world a b =
    ordering_then (front_order world a b)
    (pairs_order (verdict_key world a).pairs (verdict_key world b).pairs)

-- the same status, test and label
abbrev pub is_like : World → Verdict → Verdict → Bool
is_like world a b = is_eq (front_order world a b)

-- The ordinal of each is the number of verdicts before it that have its status, test and label.
abbrev pub AreNumbered : World → List Verdict → List Verdict → Type 0
AreNumbered world before [] = Unit {0}
AreNumbered world before (verdict ∷ verdicts) =
    (verdict.ordinal ≡ count_by (is_like world verdict) before)
    × AreNumbered world (before ++ verdict ∷ []) verdicts

-- The list of verdicts: each reached result stands in one, and they stand in their order.
pub record AreVerdicts (world : World) (roots : List ℕ) (list : List Verdict) : Type 0 where
  pub each : All (IsVerdict world roots) list
  pub all : (place : ℕ) → IsReachedResult world roots place
      → Any (λ verdict. Contains verdict.results place) list
  pub rise : IsRising (verdict_order world) list
  pub numbered : AreNumbered world [] list
