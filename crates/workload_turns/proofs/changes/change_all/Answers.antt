use Rattle.workload_turns.proofs.CourseLaws.{asks_stops, asks_then}
use Rattle.workload_turns.proofs.changes.change_all.Goals as goal

pub returns-in-Ok-clause-asks : goal.returns-in-Ok-clause-asks
returns-in-Ok-clause-asks g c =
    asks_then g.T.Teller.stands c.args.teller.now c.make_all.new.teller c.end_all.new.teller c.args.tally.now c.make_all.new.tally c.end_all.new.tally _ _
    c.end_all.result c.in-Ok.ensures.asks c.end_all.ensures.asks

pub returns-in-Err-clause-asks : goal.returns-in-Err-clause-asks
returns-in-Err-clause-asks g c =
    asks_stops g.T.Teller.stands c.args.teller.now c.make_all.new.teller c.args.tally.now c.make_all.new.tally _ _ c.in-Err.stop c.in-Err.ensures.asks
