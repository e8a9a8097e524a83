use Rattle.std.proofs.Common.{ℕ, false, List, subst}
use Rattle.json_fields.specs.Kinds.{empty_text}
use Rattle.json_fields.specs.Writing.{AllWritten}
use Rattle.invocation_forms.specs.Named.{an_invocation_name, IsNameOf, name_data}
use Rattle.invocation_forms.proofs.IncludedLaws.{include_written}
use Rattle.invocation_forms.proofs.included.IncludingInvocation.write.Goals as goal

pub returns-clause-again : goal.returns-clause-again
returns-clause-again c =
    let all = subst (λ (ids : List (List ℕ)). AllWritten an_invocation_name IsNameOf empty_text (λ _. false) name_data ids) c.as_slice.ensures c.in_ok-put_names.ensures.again in
    include_written c.args.self.now.including c.args.self.now.add c.in_ok-put_name.ensures.again all
