use Rattle.result_journal.proofs.OpenLaws.{restarted}
use Rattle.result_journal.proofs.opening.Opening.restart.Goals as goal

pub returns-clause-given : goal.returns-clause-given
returns-clause-given g c = restarted g.D.Disk.told c.args.self.now c.requires.0 c.requires.1
