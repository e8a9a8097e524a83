use Rattle.result_journal.proofs.OpenLaws.{ready_stands}
use Rattle.result_journal.proofs.opening.Opening.ready.Goals as goal

pub returns-clause-stands : goal.returns-clause-stands
returns-clause-stands g c = λ given h. ready_stands g.D.Disk.told c.args.self given h c.requires.ended
