use Rattle.invocation_forms.proofs.NamedLaws.{named_written}
use Rattle.invocation_forms.proofs.named.NamedInvocation.write.Goals as goal

pub returns-clause-again : goal.returns-clause-again
returns-clause-again c = named_written c.args.self.now.id c.in_ok-put_name.ensures.again
