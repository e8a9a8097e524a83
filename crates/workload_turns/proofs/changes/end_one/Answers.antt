use Rattle.std.proofs.Common.{[], ◌∷◌, Ok, Err, sym, ap, ◌∙◌, subst}
use Rattle.std.proofs.lemmas.Result.{err_from_is_err_and}
use Rattle.call_forms.specs.declared.asked.Asked.{Asked}
use Rattle.workload_plans.specs.Plans.{change_asked}
use Rattle.workload_plans.specs.Requests.{finalise_request}
use Rattle.workload_turns.specs.Courses.{Asks}
use Rattle.workload_turns.proofs.CourseLaws.{asks_memory, asks_one, asks_standin}
use Rattle.workload_turns.proofs.changes.end_one.Goals as goal

pub returns-in_err-asked-clause-asks : goal.returns-in_err-asked-clause-asks
returns-in_err-asked-clause-asks g c =
    let p = err_from_is_err_and c.from_residual.result c.from_residual.ensures.1 in
    let q = change_asked c.args.asking.secret.now c.args.number (finalise_request c.args.number) in
    subst (λ r. Asks g.T.Teller.stands c.args.teller.now c.args.tally.now (q ∷ []) r c.args.teller.now c.args.tally.now) (sym (p.1 ∙ ap Err p.2))
    (asks_memory g.T.Teller.stands c.args.teller.now c.args.tally.now (q ∷ []))

pub returns-in-Ok-clause-asks : goal.returns-in-Ok-clause-asks
returns-in-Ok-clause-asks g c =
    subst (λ (q : Asked). Asks g.T.Teller.stands c.args.teller.now c.args.tally.now (q ∷ []) (Ok tt) c.ask.new.teller c.ask.new.tally) c.in_ok-asked.ensures
    (asks_one g.T.Teller.stands c.args.teller.now c.ask.new.teller c.args.tally.now c.ask.new.tally c.in_ok-asked.asked c.in-Ok.field-0 c.in-Ok.ensures.advances
    c.in-Ok.ensures.counts)

pub returns-clause-asks : goal.returns-clause-asks
returns-clause-asks g c =
    let told = c.in-Err.ensures.advances in
    subst (λ (q : Asked). Asks g.T.Teller.stands c.args.teller.now c.args.tally.now (q ∷ []) (Err c.in-Err.stop) c.ask.new.teller c.ask.new.tally) c.in_ok-asked.ensures
    (asks_standin g.T.Teller.stands c.args.teller.now c.ask.new.teller c.args.tally.now c.ask.new.tally c.in_ok-asked.asked [] told.0 c.in-Err.stop told.1 told.2
    c.in-Err.ensures.counts)
