use Rattle.trial_callers.proofs.AskingLaws.{counted_both}
use Rattle.trial_callers.proofs.asking.ask_task.Goals as goal

pub returns-in-Ok-clause-counted : goal.returns-in-Ok-clause-counted
returns-in-Ok-clause-counted g c =
    let first = c.create_all-last in
    counted_both g.T.Teller.stands c.args.teller.now first.new.teller c.read_back.new.teller first.result.0 c.read_back.result first.result.1
    first.ensures.created c.read_back.ensures.read
