use Rattle.sink_runs.proofs.ReportLaws.{junit_ends}
use Rattle.sink_runs.proofs.report.junit_cases.Goals as goal

pub returns-in-Err : goal.returns-in-Err
returns-in-Err c = junit_ends c.args.text.now c.in-Err.fault c.junit_end.result c.junit_end.ensures c.in-Err.ensures.err
