use Rattle.std.proofs.Common.{◌+◌, ◌≤◌, length}
use Rattle.sink_uploads.proofs.RunLaws.{Continues, work_left}
use Rattle.sink_uploads.specs.declared.course.Sent.{Sent}
use Rattle.sink_uploads.proofs.course.upload_requests.Given as goal

abbrev pub invariant-dials : goal.invariant-dials
invariant-dials g l = record {
  within : l.course.done ≤ length l.requests;
  few : l.course.faults + l.course.ends ≤ 5;
  runs : Continues Sent g.X.L.Link.ends l.requests (g.X.Dialer.dials l.fn.dialer) l.course (g.X.Dialer.dials l.dialer);
}

abbrev pub decreases-dials : goal.decreases-dials
decreases-dials g l = work_left l.requests l.course
