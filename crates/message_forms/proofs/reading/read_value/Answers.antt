use Rattle.std.proofs.Common.{◌∙◌}
use Rattle.serde_json.specs.View.{view}
use Rattle.message_forms.proofs.FaultLaws.{told}
use Rattle.message_forms.proofs.reading.read_value.Goals as goal

pub returns-in-Err-clause-err : goal.returns-in-Err-clause-err
returns-in-Err-clause-err c = λ no.
    rw c.from.ensures (told c.args.method (view c.args.value.now) c.in-Err.fault c.in-Err.ensures.err (λ e. no (c.from.ensures ∙ e)))
