-- What invocations hold.
use Rattle.std.specs.Prelude.{List}
use Rattle.artifacts.specs.declared.artifact.Artifact.{Artifact}
use Rattle.test_results.specs.declared.result.TestResult.{TestResult}

-- Their results and their artifacts, each in order of arrival.
pub record Held : Type 0 where
  pub results : List TestResult
  pub artifacts : List Artifact
