use Rattle.sink_runs.proofs.StatusLaws.{each_status_says}
use Rattle.sink_runs.proofs.run.send_report.Goals as goal

pub returns-clause-status : goal.returns-clause-status
returns-clause-status g c = each_status_says g.X.L.Link.ends c.args.words c.send.result _ _ c.send.ensures
