use Rattle.invocation_forms.proofs.NamedLaws.{name_written}
use Rattle.invocation_forms.proofs.name_values.name_value.Goals as goal

pub returns-clause-again : goal.returns-clause-again
returns-clause-again c = name_written c.args.id.now c.as_str-id.ensures.grammar
