use Rattle.std.proofs.Common.{◌≡◌, ◌∙◌}
use Rattle.report_ids.specs.TestNames.{test_id_text}
use Rattle.report_ids.proofs.NameLemmas.{test_id_text-IsTestId}
use Rattle.report_ids.proofs.test_names.test_id.Goals as goal

pub unreachable-requires : goal.unreachable-requires
unreachable-requires c =
    let is : c.as_bytes.result.now ≡ test_id_text c.args.prefix.now c.args.name.now = c.as_bytes.ensures.value ∙ c.in_ok-text.ensures in
    c.in-Err.ensures.refused c.in_default.not-Memory (rw is (test_id_text-IsTestId c.args.prefix.now c.args.name.now c.utf8.prefix))
