use Rattle.policy_checks.proofs.FormLemmas.{formed, refused}
use Rattle.policy_checks.proofs.check.has_realm_form.Goals as goal
use Rattle.policy_checks.proofs.check.has_realm_form.Goals.{in-Ok, in-Err}

pub returns : goal.returns
returns c =
    elim c.match-parse.branch [
      | in-Ok w ↦ rw w.result-is (formed c.args.text.now w.in-Ok.ensures.ok.1)
      | in-Err w ↦ rw w.result-is (refused w.no_unless_memory.result c.args.text.now _ w.no_unless_memory.ensures w.in-Err.ensures.fault)
    ]
