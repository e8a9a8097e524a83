use Rattle.request_rules.specs.Broken.{Lacks}
use Rattle.request_rules.specs.Rights.{rights_taken}
use Rattle.request_rules.proofs.Firsts.{no_first}
use Rattle.request_rules.proofs.judging.denied.Goals as goal

pub returns-in-None : goal.returns-in-None
returns-in-None c = λ r is.
    no_first (Lacks c.args.asker.now.policy.now c.args.asker.now.caller) (rights_taken c.args.table.now.rows c.args.demand.now)
    c.in-None.ensures is.0 is.1
