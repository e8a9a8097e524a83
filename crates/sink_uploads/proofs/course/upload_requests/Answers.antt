use Rattle.std.proofs.Common.{◌≡◌, ◌≤◌, refl, arith, subst, length}
use Rattle.sink_uploads.specs.Dialled.{Dialled}
use Rattle.sink_uploads.specs.Visits.{IsDoneAt}
use Rattle.sink_uploads.specs.declared.course.Sent.{Sent}
use Rattle.sink_uploads.proofs.RunLaws.{from_start, goes_on, stops, stays, falls, within, at_most_five}
use Rattle.sink_uploads.proofs.course.upload_requests.Goals as goal

pub dials-init : goal.dials-init
dials-init g c = record { within = omega arith; few = omega arith; runs = from_start Sent _ _ _ }

pub dials-preserved : goal.dials-preserved
dials-preserved g c =
    let d = c.in-Ok.ensures.dialled in
    let seen = c.behind-rest.ensures in
    let few = c.if-course-ge-MOST.false in
    record {
      within = within _ c.dials.course c.in-Ok-advanced.next c.in-Ok.visited c.dials-test.true
          (subst (λ z. c.in-Ok.visited.answered ≤ length z) seen c.in-Ok.ensures.within) c.in-Ok-advanced.ensures;
      few = at_most_five c.dials.course c.in-Ok-advanced.next c.in-Ok.visited few c.in-Ok-advanced.ensures;
      runs = goes_on Sent _ _ _ _ _ c.dials.course c.in-Ok-advanced.next c.in-Ok.visited d.0 c.dials.invariant.runs (c.dials-test.true, few)
          (subst (λ z. Dialled g.X.L.Link.ends z (g.X.Dialer.dials c.dials.dialer) d.0 (g.X.Dialer.dials c.dial.new.dialer)) seen d.1)
          d.2 d.3 c.in-Ok-advanced.ensures;
    }

pub dials-smaller : goal.dials-smaller
dials-smaller g c =
    falls _ c.dials.course c.in-Ok-advanced.next c.in-Ok.visited (c.dials-test.true, c.if-course-ge-MOST.false)
    (subst (λ z. IsDoneAt z c.in-Ok.visited.answered c.in-Ok.visited.parting) c.behind-rest.ensures c.in-Ok.ensures.done) c.in-Ok-advanced.ensures

pub returns-then-course-ge-MOST-clause-runs : goal.returns-then-course-ge-MOST-clause-runs
returns-then-course-ge-MOST-clause-runs g c =
    let few = c.dials.invariant.few in
    let most = c.if-course-ge-MOST.true in
    rw c.given_up.ensures
    (stays Sent _ _ _ _ c.dials.course _ c.dials.invariant.runs (c.dials-test.true, omega (arith, few, most), refl, refl, refl))

pub returns-in_default-clause-runs : goal.returns-in_default-clause-runs
returns-in_default-clause-runs g c =
    let same : g.X.Dialer.dials c.dial.new.dialer ≡ g.X.Dialer.dials c.dials.dialer = c.in_default.ensures.none in
    rw same (stays Sent _ _ _ _ c.dials.course _ c.dials.invariant.runs c.if-course-ge-MOST.false)

pub returns-in-Err-clause-runs : goal.returns-in-Err-clause-runs
returns-in-Err-clause-runs g c =
    let d = c.in-Ok.ensures.dialled in
    stops Sent _ _ _ _ _ c.dials.course c.in-Err.fault c.in-Ok.visited d.0 c.dials.invariant.runs (c.dials-test.true, c.if-course-ge-MOST.false)
    (subst (λ z. Dialled g.X.L.Link.ends z (g.X.Dialer.dials c.dials.dialer) d.0 (g.X.Dialer.dials c.dial.new.dialer)) c.behind-rest.ensures d.1)
    d.2 d.3 c.in-Err.ensures

pub returns-clause-runs : goal.returns-clause-runs
returns-clause-runs g c =
    let within = c.dials.invariant.within in
    let all = c.dials-test.false in
    stays Sent _ _ _ _ c.dials.course _ c.dials.invariant.runs (omega (arith, within, all))
