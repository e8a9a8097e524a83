use Rattle.std.proofs.Common.{codes, true, ap, ◌∙◌}
use Rattle.std.proofs.lemmas.Result.{IfOk-weaker}
use Rattle.clap.specs.Words.{with_rule}
use Rattle.program_words.specs.Clap.{made_rule}
use Rattle.program_words.proofs.reading.with_workload_options.Goals as goal

pub returns : goal.returns
returns c =
    let first = c.in_ok-command.ensures ∙ ap (λ a. with_rule a (made_rule (codes "journal") true)) c.new-command.ensures.app in
    let second = c.in_ok-command-2.ensures ∙ ap (λ a. with_rule a (made_rule (codes "number") true)) first in
    IfOk-weaker c.with_option-3.result _ _ (λ command has. has ∙ ap (λ a. with_rule a (made_rule (codes "count") true)) second)
    c.with_option-3.ensures
