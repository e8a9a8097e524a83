use Rattle.std.proofs.Common.{None, Err, sym, ap, ◌∙◌, subst}
use Rattle.std.proofs.lemmas.Result.{err_from_is_err_and}
use Rattle.workload_turns.specs.Courses.{ReadsPages}
use Rattle.workload_turns.proofs.PageLaws.{reads_none}
use Rattle.workload_turns.proofs.pages.read_pages.Goals as goal

pub returns-in_err-query-clause-reads : goal.returns-in_err-query-clause-reads
returns-in_err-query-clause-reads g c =
    let p = err_from_is_err_and c.from_residual.result c.from_residual.ensures.1 in
    subst (λ r. ReadsPages g.T.Teller.stands c.args.number c.args.teller.now c.args.tally.now None r c.args.teller.now c.args.tally.now) (sym (p.1 ∙ ap Err p.2))
    (reads_none g.T.Teller.stands c.args.number c.args.teller.now c.args.tally.now None)
