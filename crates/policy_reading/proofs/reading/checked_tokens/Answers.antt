use Rattle.std.proofs.Common.{sym, ap, ◌∙◌}
use Rattle.std.proofs.lemmas.Result.{MatchResult-weaker}
use Rattle.permissions.specs.Faults.{owners_fault}
use Rattle.policy_reading.specs.Reading.{owners}
use Rattle.policy_reading.proofs.reading.checked_tokens.Goals as goal

pub returns-clause-err : goal.returns-clause-err
returns-clause-err c =
    MatchResult-weaker c.check_tokens.result c.check_tokens.ensures.fault (λ _ _. tt)
    (λ y h n. owners y c.requires.texts c.requires.no_cycle (ap owners_fault (sym c.tables.ensures) ∙ h n))
