-- What is shown of a result to a caller, and what is hidden.
use Rattle.std.specs.Prelude.{◌≡◌, ℕ, ℤ, Bool, true, false, List, Option, Some, None, Contains, slice_get, if◌then◌else◌}
use Rattle.names_realms.specs.declared.pairs.Pair.{Pair}
use Rattle.names_realms.specs.declared.states.Status.{Status}
use Rattle.names_realms.specs.Variants.{label_of}
use Rattle.permissions.specs.PolicyChecks.declared.permission.Permission.TheVariants.{GetTestResult}
use Rattle.policy_tables.specs.declared.tables.PolicyTables.{PolicyTables}
use Rattle.permissions.specs.Allows.{Allows}
use Rattle.verdict_lists.specs.Invocations.declared.invocation.Invocation.{Invocation}
use Rattle.test_results.specs.declared.result.TestResult.{TestResult}
use Rattle.verdict_lists.specs.declared.verdict.Verdict.{Verdict}
use Rattle.verdict_lists.specs.World.{World}
use Rattle.verdict_masks.specs.declared.shown.ShownResult.{ShownResult}
use Rattle.verdict_masks.specs.Cuts.{IsCut}

-- The caller may see whole what an invocation of this realm holds.
abbrev pub MaySee : PolicyTables → ℕ → List ℕ → Type 0
MaySee tables caller realm = Allows tables caller GetTestResult realm

-- The row is shown whole.
pub record IsWhole (row : TestResult) (shown : ShownResult) : Type 0 where
  pub same : shown.row.now ≡ row
  pub masked : shown.masked ≡ false
  pub label : shown.label ≡ label_of row.variant
  pub message : shown.message.now ≡ row.message

-- The row is shown masked: its message is cut.
pub record IsMasked (row : TestResult) (shown : ShownResult) : Type 0 where
  pub same : shown.row.now ≡ row
  pub masked : shown.masked ≡ true
  pub label : shown.label ≡ label_of row.variant
  pub message : IsCut row.message shown.message.now

-- What is hidden where a result is masked, beside the rest of its message.
pub record Hidden : Type 0 where
  pub pairs : List Pair
  pub summary : List ℕ
  pub tags : List Pair
  pub properties : List ℕ

-- What is seen of a result.
pub record Seen : Type 0 where
  pub holder : ℕ
  pub test : List ℕ
  pub result : List ℕ
  pub expected : Bool
  pub status : Status
  pub start : Option ℤ
  pub duration : Option ℕ
  pub label : List ℕ
  pub message : List ℕ
  pub masked : Bool
  pub hidden : Option Hidden

abbrev pub hidden_of : TestResult → Hidden
hidden_of row = record {
  pairs = row.variant;
  summary = row.summary;
  tags = row.tags;
  properties = row.properties;
}

-- Of a masked result nothing is seen of what is hidden.
abbrev pub seen : ShownResult → Seen
seen shown = record {
  holder = shown.row.now.holder;
  test = shown.row.now.test;
  result = shown.row.now.result;
  expected = shown.row.now.expected;
  status = shown.row.now.status;
  start = shown.row.now.start;
  duration = shown.row.now.duration;
  label = shown.label;
  message = shown.message.now;
  masked = shown.masked;
  hidden = if shown.masked then None else Some (hidden_of shown.row.now);
}

-- Two rows differ in nothing but what is hidden: their messages have the same cut, and their
-- variants the same label.
pub record DifferHidden (one other : TestResult) : Type 0 where
  pub holder : one.holder ≡ other.holder
  pub test : one.test ≡ other.test
  pub result : one.result ≡ other.result
  pub expected : one.expected ≡ other.expected
  pub status : one.status ≡ other.status
  pub start : one.start ≡ other.start
  pub duration : one.duration ≡ other.duration
  pub label : label_of one.variant ≡ label_of other.variant
  pub cut : List ℕ
  pub cut_of_one : IsCut one.message cut
  pub cut_of_other : IsCut other.message cut

-- The caller may see this result of the world whole, by the realm of the invocation that holds it.
abbrev pub MaySeeResult : World → PolicyTables → ℕ → ℕ → Type 0
MaySeeResult world tables caller place =
    (row : TestResult) × (slice_get world.results place ≡ Some row)
    × (holder : Invocation) × (slice_get world.invocations row.holder ≡ Some holder)
    × MaySee tables caller holder.realm

-- A verdict shows its variant where at least one of all its results may be seen whole.
abbrev pub ShowsVariant : World → PolicyTables → ℕ → Verdict → Type 0
ShowsVariant world tables caller verdict =
    (place : ℕ) × Contains verdict.results place × MaySeeResult world tables caller place
