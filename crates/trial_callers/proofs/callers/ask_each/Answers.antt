use Rattle.std.proofs.Common.{sym, subst, slice_index_or}
use Rattle.tellers.specs.Exchange.{StandsForSome}
use Rattle.trial_callers.specs.Callings.{HasAskedOwn}
use Rattle.trial_callers.specs.declared.callers.Caller.{Caller}
use Rattle.trial_callers.proofs.callers.ask_each.Goals as goal

pub for_each_mut-requires-clause-accepts : goal.for_each_mut-requires-clause-accepts
for_each_mut-requires-clause-accepts g c κs within = λ i p below at.
    subst (λ (caller : Caller g.row.T.Denot). StandsForSome g.T.Teller.stands caller.teller) (sym at) (c.requires i p.now below)

pub returns : goal.returns
returns g c = λ i d below.
    let at = (c.for_each_mut.ensures i d below).1 in
    let Did = HasAskedOwn g.T.Teller.stands in
    subst (λ (caller : Caller g.row.T.Denot). Did (slice_index_or c.args.callers.now i d) caller) at.left
    (subst (λ (caller : Caller g.row.T.Denot). Did caller at.after_call.now) at.argument_is at.call)
