-- What a caller sees of a result, of an exoneration and of a verdict.
use Rattle.std.specs.Prelude.{◌≡◌, ◌<◌, ℕ, Bool, true, false, List, Option, Some, None, MatchBool, MatchOption, if◌then◌else◌, length, slice_get, take}
use Rattle.std.specs.List.{AllZip}
use Rattle.names_realms.specs.Variants.{label_of}
use Rattle.policy_checks.specs.declared.permission.Permission.TheVariants.{GetTestExoneration}
use Rattle.policy_tables.specs.declared.tables.PolicyTables.{PolicyTables}
use Rattle.permissions.specs.Allows.{Allows}
use Rattle.invocations.specs.declared.invocation.Invocation.{Invocation}
use Rattle.test_results.specs.declared.exoneration.TestExoneration.{TestExoneration}
use Rattle.test_results.specs.declared.result.TestResult.{TestResult}
use Rattle.verdict_lists.specs.declared.verdict.Verdict.{Verdict}
use Rattle.verdict_lists.specs.Orders.{id_at}
use Rattle.verdict_lists.specs.Verdicts.{verdict_key}
use Rattle.verdict_lists.specs.World.{World}
use Rattle.verdict_masks.specs.Cuts.{IsCut}
use Rattle.verdict_masks.specs.Masks.{MaySeeResult, Seen, ShowsVariant, hidden_of}
use Rattle.query_pages.specs.Seen.{SeenHeld, SeenVerdict}

-- The result at a place is there, and so is the invocation that holds it.
abbrev pub HasResult : World → ℕ → Type 0
HasResult world place =
    (row : TestResult) × (slice_get world.results place ≡ Some row)
    × (row.holder < length world.invocations)

-- What is seen of a row, with so much of its message: of a masked one nothing that is hidden.
abbrev pub seen_of : Bool → List ℕ → TestResult → Seen
seen_of masked message row = record {
  holder = row.holder;
  test = row.test;
  result = row.result;
  expected = row.expected;
  status = row.status;
  start = row.start;
  duration = row.duration;
  label = label_of row.variant;
  message = message;
  masked = masked;
  hidden = if masked then None else Some (hidden_of row);
}

-- Of a masked row the cut of its message is seen, of another one all of it.
abbrev pub IsSeen : TestResult → Seen → Type 0
IsSeen row seen =
    MatchBool seen.masked
    ((cut : List ℕ) × IsCut row.message cut × (seen ≡ seen_of true cut row))
    (seen ≡ seen_of false row.message row)

-- The result at a place is shown to the caller, beside the id of the invocation that holds it:
-- whole where it may be seen so, by the realm of that invocation, else masked.
pub record IsShownResult (world : World) (policy : PolicyTables) (caller place : ℕ)
    (held : SeenHeld) : Type 0 where
  pub row : TestResult
  pub there : slice_get world.results place ≡ Some row
  pub invocation : held.invocation ≡ id_at world row.holder
  pub tells : MatchBool held.result.masked
      (¬ MaySeeResult world policy caller place) (MaySeeResult world policy caller place)
  pub shows : IsSeen row held.result

-- The caller may see the explanation of the exoneration at a place, by the realm of the invocation
-- that holds it.
abbrev pub MaySeeExplanation : World → PolicyTables → ℕ → ℕ → Type 0
MaySeeExplanation world policy caller place =
    (row : TestExoneration) × (slice_get world.exonerations place ≡ Some row)
    × (holder : Invocation) × (slice_get world.invocations row.holder ≡ Some holder)
    × Allows policy caller GetTestExoneration holder.realm

-- It is told exactly where the caller may see it.
abbrev pub IsExplained : World → PolicyTables → ℕ → ℕ → Option (List ℕ) → Type 0
IsExplained world policy caller place told =
    MatchOption told (¬ MaySeeExplanation world policy caller place)
    (λ text. (may : MaySeeExplanation world policy caller place) × (text ≡ may.0.explanation))

-- A verdict is shown to the caller: the pairs of its variant exactly where one of all its results
-- may be seen whole, and of its results so many first ones.
pub record IsShownVerdict (world : World) (policy : PolicyTables) (caller count : ℕ)
    (verdict : Verdict) (shown : SeenVerdict) : Type 0 where
  pub test : shown.test ≡ (verdict_key world verdict).test
  pub variant : MatchOption shown.variant (¬ ShowsVariant world policy caller verdict)
      (λ pairs. ShowsVariant world policy caller verdict
      × (pairs ≡ (verdict_key world verdict).pairs))
  pub label : shown.label ≡ verdict.label
  pub status : shown.status ≡ verdict.status
  pub results : AllZip (IsShownResult world policy caller)
      (take count verdict.results) shown.results
  pub exonerations : AllZip (IsExplained world policy caller)
      verdict.exonerations shown.exonerations
