-- The code's own words for entries of one test and variant, and for their verdicts.
use Rattle.std.specs.Prelude.{◌≡◌, ℕ, Bool, true, List, [], ◌∷◌, ◌++◌, Option, Some, None, Contains, replicate, slice_get, if◌then◌else◌}
use Rattle.std.specs.List.{AllByRecursion, filter, filter_map, flat_map}
use Rattle.std.specs.Ordering.{is_eq}
use Rattle.std.specs.declared.cmp.Ordering.{Ordering}
use Rattle.std.specs.declared.cmp.Ordering.TheVariants.{Less}
use Rattle.names_realms.specs.Variants.{label_of}
use Rattle.test_results.specs.declared.result.TestResult.{TestResult}
use Rattle.verdict_lists.specs.declared.entries.Entry.{Entry}
use Rattle.verdict_lists.specs.declared.verdict.Verdict.{Verdict}
use Rattle.verdict_lists.specs.World.{World, results_at}
use Rattle.lists.specs.Orders.{IsRising}
use Rattle.verdict_lists.specs.Orders.{group_order}
use Rattle.verdict_lists.specs.Statuses.{status_of}
use Rattle.verdict_lists.specs.Verdicts.{is_some}
use Rattle.verdict_lists.specs.Entries.{entry_key, result_in, exoneration_in}

-- by test and pairs alone
abbrev pub group_of_entries : World → Entry → Entry → Ordering
group_of_entries world a b = group_order (entry_key world a) (entry_key world b)

-- of the same test and pairs
abbrev pub is_same : World → Entry → Entry → Bool
is_same world a b = is_eq (group_of_entries world a b)

abbrev pub results_in : List Entry → List ℕ
results_in entries = filter_map result_in entries

abbrev pub exonerations_in : List Entry → List ℕ
exonerations_in entries = filter_map exoneration_in entries

-- the label of the first of the results at these places, and zeros where there is none
abbrev pub label_in : Option TestResult → List ℕ
label_in None = replicate 16 0
label_in (Some row) = label_of row.variant

abbrev pub label_at : List TestResult → List ℕ → List ℕ
label_at rows [] = replicate 16 0
label_at rows (place ∷ places) = label_in (slice_get rows place)

-- the verdict of entries, not numbered yet
abbrev pub made : World → List Entry → Verdict
made world entries = record {
  status = status_of (is_some (exonerations_in entries))
      (results_at world.results (results_in entries));
  label = label_at world.results (results_in entries);
  results = results_in entries;
  exonerations = exonerations_in entries;
  ordinal = 0;
}

-- no verdict where there is no result
abbrev pub made_of : World → List Entry → List Verdict
made_of world entries = if is_some (results_in entries) then made world entries ∷ [] else []

-- the verdict of the entries that are like one
abbrev pub verdict_at : World → List Entry → Entry → List Verdict
verdict_at world entries entry = made_of world (filter (is_same world entry) entries)

-- each entry of the one list comes before all of the other, by test and pairs
abbrev pub AreApart : World → List Entry → List Entry → Type 0
AreApart world front back =
    AllByRecursion (λ a. AllByRecursion (λ b. group_of_entries world a b ≡ Less) back) front

-- So far have entries been cut into groups, up to what is left: a head of each group, whose entries
-- are all that are like it, and a verdict of each group that has a result.
pub record IsCut (world : World) (entries left : List Entry)
    (verdicts : List Verdict) : Type 0 where
  pub done : List Entry
  pub split : entries ≡ done ++ left
  pub apart : AreApart world done left
  pub heads : List Entry
  pub made : verdicts ≡ flat_map (verdict_at world entries) heads
  pub rise : IsRising (group_of_entries world) heads
  pub within : AllByRecursion (Contains done) heads
  pub all : (entry : Entry) → Contains done entry
      → (head : Entry) × Contains heads head × (is_same world head entry ≡ true)

-- All of them have been.
abbrev pub AreGrouped : World → List Entry → List Verdict → Type 0
AreGrouped world entries verdicts = IsCut world entries [] verdicts

-- a verdict without its ordinal
abbrev pub plain : Verdict → Verdict
plain verdict = record verdict { ordinal = 0 }
