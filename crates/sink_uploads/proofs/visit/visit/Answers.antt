use Rattle.std.proofs.Common.{arith, subst, Ok, Err}
use Rattle.sink_uploads.specs.Tries.{Tries}
use Rattle.sink_uploads.proofs.VisitLaws.{visiting_none, visiting_more, visited_all, visited_to}
use Rattle.sink_uploads.proofs.visit.visit.Goals as goal

pub loop-answered-init : goal.loop-answered-init
loop-answered-init g c = visiting_none _ _ _ c.requires

pub loop-answered-preserved : goal.loop-answered-preserved
loop-answered-preserved g c =
    visiting_more _ c.loop-answered.answered _ _ _ _ _ c.index-requests-answered.result c.in_default.field-0 c.loop-answered.invariant
    c.loop-answered-test.true c.index-requests-answered.is
    (subst
    (λ z. Tries z c.loop-answered.reader (g.L.Link.ends c.loop-answered.link) (Ok c.in_default.field-0) c.try_request.new.reader (g.L.Link.ends c.try_request.new.link))
    c.as_slice.ensures c.in_default.ensures)

pub returns-in-Err-clause-carried : goal.returns-in-Err-clause-carried
returns-in-Err-clause-carried g c =
    visited_to {T = Unit {0}} _ c.loop-answered.answered _ _ _ _ _ c.index-requests-answered.result c.in-Err.parting c.loop-answered.invariant
    c.loop-answered-test.true c.index-requests-answered.is
    (subst
    (λ z. Tries {T = Unit {0}} z c.loop-answered.reader (g.L.Link.ends c.loop-answered.link) (Err c.in-Err.parting) c.try_request.new.reader (g.L.Link.ends c.try_request.new.link))
    c.as_slice.ensures c.in-Err.ensures)

pub returns : goal.returns
returns g c =
    let inv = c.loop-answered.invariant in
    let within = inv.within in
    let all = c.loop-answered-test.false in
    record {
      carried = visited_all _ _ _ _ _ inv all;
      within = within;
      done = λ _. omega (arith, within, all);
    }
