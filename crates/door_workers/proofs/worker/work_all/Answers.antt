use Rattle.std.proofs.Common.{sym, subst, slice_index_or}
use Rattle.tellers.specs.Exchange.{StandsForSome}
use Rattle.door_workers.specs.Workers.{IsWorked, worker_of}
use Rattle.door_workers.specs.declared.worker.Worked.{Worked}
use Rattle.door_workers.proofs.worker.work_all.Goals as goal

pub for_each_mut-requires-clause-accepts : goal.for_each_mut-requires-clause-accepts
for_each_mut-requires-clause-accepts g c κs within = λ i p below at.
    subst (λ (job : Worked g.row.A.Denot g.row.T.Denot). StandsForSome g.T.Teller.stands job.teller) (sym at) (c.requires.stands i p.now below)

pub returns : goal.returns
returns g c = λ i d below.
    let at = (c.for_each_mut.ensures i d below).1 in
    let Did = IsWorked g.A.Door.tells g.A.L.Link.ends g.A.L.Link.holds g.T.Teller.stands g.T.Teller.holds in
    subst (λ (job : Worked g.row.A.Denot g.row.T.Denot). Did (worker_of (slice_index_or c.args.jobs.now i d)) job) at.left
    (subst (λ (job : Worked g.row.A.Denot g.row.T.Denot). Did (worker_of job) at.after_call.now) at.argument_is at.call)
