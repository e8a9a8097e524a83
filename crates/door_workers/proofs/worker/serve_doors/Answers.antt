use Rattle.std.proofs.Common.{◌≡◌, ◌∙◌, sym, subst, List, length, drop}
use Rattle.std.specs.List.{AllZip}
use Rattle.door_workers.specs.Workers.{IsWorked}
use Rattle.door_workers.specs.declared.worker.Worked.{Worked}
use Rattle.door_workers.proofs.WorkerLaws.{zip_workers, jobs_stand, filled}
use Rattle.door_workers.proofs.worker.serve_doors.Goals as goal

pub returns-clause-ok : goal.returns-clause-ok
returns-clause-ok g c =
    let jobs = c.in_ok-jobs.jobs in
    let done = c.work_all.new.jobs in
    let full : length done ≡ jobs.len = c.work_all.auto.jobs ∙ c.as_mut_slice.ensures.len in
    let Did = IsWorked g.A.Door.tells g.A.L.Link.ends g.A.L.Link.holds g.T.Teller.stands g.T.Teller.holds in
    subst (λ (all : List (Worked g.row.A.Denot g.row.T.Denot)). AllZip Did c.args.workers.items all) (sym (filled jobs.len done (drop (length done) jobs.items) full))
    (zip_workers Did c.args.workers.items c.as_mut_slice.result.now done (c.as_mut_slice.ensures.value ∙ c.in_ok-jobs.ensures.ok)
    c.work_all.auto.jobs c.work_all.ensures)

pub work_all-requires-clause-stands : goal.work_all-requires-clause-stands
work_all-requires-clause-stands g c κs within =
    jobs_stand g.T.Teller.stands c.args.workers.items c.as_mut_slice.result.now (c.as_mut_slice.ensures.value ∙ c.in_ok-jobs.ensures.ok) c.requires
