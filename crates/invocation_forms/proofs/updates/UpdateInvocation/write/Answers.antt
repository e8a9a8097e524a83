use Rattle.json_fields.proofs.WriteLaws.{always}
use Rattle.invocation_forms.proofs.UpdateLaws.{update_written}
use Rattle.invocation_forms.specs.Updates.{changed_data}
use Rattle.invocation_forms.proofs.updates.UpdateInvocation.write.Goals as goal

pub returns-clause-again : goal.returns-clause-again
returns-clause-again c =
    let q = c.args.self.now in
    always _ c.update_value.result
    (λ some. update_written (changed_data q.id q.deadline q.tags) q.id q.deadline q.tags some c.in_ok-changed.ensures.again)
