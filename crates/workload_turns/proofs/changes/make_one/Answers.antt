use Rattle.std.proofs.Common.{Err, sym, ap, ◌∙◌, subst}
use Rattle.std.proofs.lemmas.Result.{err_from_is_err_and}
use Rattle.workload_plans.specs.Plans.{invocation_asked}
use Rattle.workload_plans.specs.WorkloadDraws.Drawn.{invocation_at}
use Rattle.workload_turns.specs.Courses.{Asks}
use Rattle.workload_turns.proofs.CourseLaws.{asks_memory}
use Rattle.workload_turns.proofs.changes.make_one.Goals as goal

pub returns-in_err-drawn-clause-asks : goal.returns-in_err-drawn-clause-asks
returns-in_err-drawn-clause-asks g c = λ start is.
    let p = err_from_is_err_and c.from_residual.result c.from_residual.ensures.1 in
    let qs = invocation_asked c.args.asking.secret.now c.args.number (invocation_at start c.args.number) in
    subst (λ r. Asks g.T.Teller.stands c.args.teller.now c.args.tally.now qs r c.args.teller.now c.args.tally.now) (sym (p.1 ∙ ap Err p.2))
    (asks_memory g.T.Teller.stands c.args.teller.now c.args.tally.now qs)

pub returns-in_err-requests-clause-asks : goal.returns-in_err-requests-clause-asks
returns-in_err-requests-clause-asks g c = λ start is.
    let p = err_from_is_err_and c.from_residual-in_err-requests.result c.from_residual-in_err-requests.ensures.1 in
    let qs = invocation_asked c.args.asking.secret.now c.args.number (invocation_at start c.args.number) in
    subst (λ r. Asks g.T.Teller.stands c.args.teller.now c.args.tally.now qs r c.args.teller.now c.args.tally.now) (sym (p.1 ∙ ap Err p.2))
    (asks_memory g.T.Teller.stands c.args.teller.now c.args.tally.now qs)
