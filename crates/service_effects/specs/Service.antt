-- The world of the service: a record of its parts.
use Rattle.std.specs.Prelude.{ℕ, ◌<◌, List, [], All, length}
use Rattle.artifacts.specs.declared.artifact.Artifact.{Artifact}
use Rattle.artifacts.specs.Artifacts as artifacts
use Rattle.kept_replies.specs.declared.reply.KeptReply.{KeptReply}
use Rattle.test_results.specs.declared.exoneration.TestExoneration.{TestExoneration}
use Rattle.test_results.specs.declared.result.TestResult.{TestResult}
use Rattle.test_results.specs.Exonerations as exonerations
use Rattle.test_results.specs.Results as results
use Rattle.invocation_world.specs.World.{World, IsValid, empty_world}

-- The invocations with their inclusions and the moment of the last change; and the test results,
-- the exonerations, the artifacts and what is kept of numbered requests, each in order of arrival;
-- and how many bytes the records take that made it.
pub record ServiceWorld : Type 0 where
  pub rows : World
  pub results : List TestResult
  pub exonerations : List TestExoneration
  pub artifacts : List Artifact
  pub kept : List KeptReply
  pub stored : ℕ

abbrev pub empty_service : ServiceWorld
empty_service = record {
  rows = empty_world;
  results = [];
  exonerations = [];
  artifacts = [];
  kept = [];
  stored = 0;
}

-- What is recorded: the parts that requests are about.
pub record Recorded : Type 0 where
  pub rows : World
  pub results : List TestResult
  pub exonerations : List TestExoneration
  pub artifacts : List Artifact

abbrev pub recorded : ServiceWorld → Recorded
recorded w = record {
  rows = w.rows;
  results = w.results;
  exonerations = w.exonerations;
  artifacts = w.artifacts;
}

-- The rows are a table, whose holders are among so many invocations.
pub record AreResults (count : ℕ) (rows : List TestResult) : Type 0 where
  pub table : results.IsTable rows
  pub held : All (λ row. row.holder < count) rows

pub record AreExonerations (count : ℕ) (rows : List TestExoneration) : Type 0 where
  pub table : exonerations.IsTable rows
  pub held : All (λ row. row.holder < count) rows

pub record AreArtifacts (count : ℕ) (rows : List Artifact) : Type 0 where
  pub table : artifacts.IsTable rows
  pub held : All (λ row. row.holder < count) rows

-- What is so of what is recorded between two steps.
pub record IsSound (w : Recorded) : Type 0 where
  pub rows : IsValid w.rows
  pub results : AreResults (length w.rows.invocations) w.results
  pub exonerations : AreExonerations (length w.rows.invocations) w.exonerations
  pub artifacts : AreArtifacts (length w.rows.invocations) w.artifacts
