-- What verdicts are made of: lists of rows, and what of them is reached.
use Rattle.std.specs.Prelude.{◌≡◌, ◌<◌, ℕ, List, Some, length, slice_get, All}
use Rattle.std.specs.List.{filter_map}
use Rattle.inclusion_graph.specs.declared.edge.Edge.{Edge}
use Rattle.inclusion_graph.specs.Walks.{IsReached}
use Rattle.invocations.specs.declared.invocation.Invocation.{Invocation}
use Rattle.invocations.specs.Rows.{IsTable as AreInvocations}
use Rattle.test_results.specs.declared.result.TestResult.{TestResult}
use Rattle.test_results.specs.declared.exoneration.TestExoneration.{TestExoneration}
use Rattle.test_results.specs.Results.{IsTable as AreResults}
use Rattle.verdict_lists.specs.declared.view.View.{View}

-- Invocations, which of them includes which, and the results and exonerations that they hold. A row
-- names its invocation by its place.
pub record World : Type 0 where
  pub invocations : List Invocation
  pub edges : List Edge
  pub results : List TestResult
  pub exonerations : List TestExoneration

abbrev pub world_of : View → World
world_of view = record {
  invocations = view.table.now.rows;
  edges = view.graph.now.edges;
  results = view.results.now.rows;
  exonerations = view.exonerations.now.rows;
}

-- The graph has a node for each invocation.
abbrev pub IsWhole : View → Type 0
IsWhole view = view.graph.now.nodes ≡ length view.table.now.rows

-- Invocations include those that are there, no two of them have one id, and no two results of one
-- have the same names.
pub record IsKept (world : World) : Type 0 where
  pub from : All (λ (edge : Edge). edge.from < length world.invocations) world.edges
  pub to : All (λ (edge : Edge). edge.to < length world.invocations) world.edges
  pub invocations : AreInvocations world.invocations
  pub results : AreResults world.results

-- Each root is the place of an invocation.
abbrev pub AreRoots : World → List ℕ → Type 0
AreRoots world roots = All (λ root. root < length world.invocations) roots

-- The result at this place is reached from a root: a walk of inclusions leads to the invocation
-- that holds it.
abbrev pub IsReachedResult : World → List ℕ → ℕ → Type 0
IsReachedResult world roots place =
    (row : TestResult) × (slice_get world.results place ≡ Some row)
    × IsReached world.edges roots row.holder

-- So is an exoneration.
abbrev pub IsReachedExoneration : World → List ℕ → ℕ → Type 0
IsReachedExoneration world roots place =
    (row : TestExoneration) × (slice_get world.exonerations place ≡ Some row)
    × IsReached world.edges roots row.holder

-- the results at these places
abbrev pub results_at : List TestResult → List ℕ → List TestResult
results_at rows places = filter_map (slice_get rows) places
