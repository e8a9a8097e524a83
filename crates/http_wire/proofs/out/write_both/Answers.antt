use Rattle.std.proofs.Common.{ap, ◌∙◌, Err}
use Rattle.std.proofs.lemmas.Result.{err_from_is_err_and}
use Rattle.http_wire.proofs.ReplyLaws.{written_err, written_both}
use Rattle.http_wire.proofs.out.write_both.Goals as goal

pub returns-in_err-write_whole-clause-written : goal.returns-in_err-write_whole-clause-written
returns-in_err-write_whole-clause-written g c =
    let p = err_from_is_err_and c.from_residual.result c.from_residual.ensures.1 in
    written_err _ _ _ _ _ _ c.in_err-write_whole.ensures.written (p.1 ∙ ap Err p.2)

pub returns-clause-written : goal.returns-clause-written
returns-clause-written g c = written_both _ _ _ _ _ _ _ c.in_ok-write_whole.ensures.written c.write_whole-2.ensures.written
