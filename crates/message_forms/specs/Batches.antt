-- What replies show of batches: their rows, whole and in the order in which they came.
use Rattle.std.specs.Prelude.{ℕ, List}
use Rattle.serde_json.specs.Data.{Data, object, no_members}
use Rattle.json_fields.specs.Writing.{put_list}
use Rattle.test_results.specs.declared.result.TestResult.{TestResult}
use Rattle.test_results.specs.declared.exoneration.TestExoneration.{TestExoneration}
use Rattle.query_forms.specs.ResultForms.Replies.{result_data, exoneration_data}
use Rattle.message_forms.specs.Names as name

-- The id of the invocation that holds the rows, and the rows.
pub record ResultsShown : Type 0 where
  pub invocation : List ℕ
  pub rows : List TestResult

pub record ExonerationsShown : Type 0 where
  pub invocation : List ℕ
  pub rows : List TestExoneration

-- The list of them is left out where it is empty.
abbrev pub results_data : ResultsShown → Data
results_data s =
    object (put_list name.test_results (result_data s.invocation) s.rows no_members)

abbrev pub exonerations_data : ExonerationsShown → Data
exonerations_data s =
    object (put_list name.test_exonerations (exoneration_data s.invocation) s.rows no_members)
