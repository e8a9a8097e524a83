use Rattle.service_core.proofs.ServeLaws.{refuses_alone}
use Rattle.service_core.proofs.serving.Core.prepare.Goals as goal

pub returns-in-Refused-clause-prepared : goal.returns-in-Refused-clause-prepared
returns-in-Refused-clause-prepared c = λ asked is.
    refuses_alone (record { policy = c.args.policy.now }) c.args.self.now c.args.moment asked c.args.understood c.in-Refused.answer
    c.in-Refused.is is
