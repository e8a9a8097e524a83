use Rattle.std.proofs.Common.{Option, option_map, subst}
use Rattle.policy_tables.specs.declared.findings.Finding.{Finding}
use Rattle.permissions.specs.Faults.{check_fault, checked}
use Rattle.policy_reading.specs.Reading.{Answers}
use Rattle.policy_reading.proofs.stages.check_all.Goals as goal

pub returns : goal.returns
unfolding checked
returns c =
    subst (λ (l : Option Finding). Answers c.no_finding.result (option_map (check_fault c.args.check) l))
    c.in_ok-least.ensures
    c.no_finding.ensures
