use Rattle.std.proofs.Common.{[]}
use Rattle.page_tokens.proofs.KindLemmas.{each_of_result}
use Rattle.page_tokens.proofs.kinds.ResultCursorCursor.of_contents.Goals as goal

pub returns : goal.returns
returns c =
    rw (c.in_ok-invocation_id.ensures, c.in_ok-test_id.ensures, c.in_ok-result_id.ensures)
    (each_of_result c.args.contents.now (record { ref_ptr = (0, 0); now = [] }) c.requires)
