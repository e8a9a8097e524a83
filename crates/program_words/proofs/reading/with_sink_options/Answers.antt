use Rattle.std.proofs.Common.{codes, true, false, ap, ◌∙◌}
use Rattle.std.proofs.lemmas.Result.{IfOk-weaker}
use Rattle.clap.specs.Words.{with_rule}
use Rattle.program_words.specs.Clap.{made_rule}
use Rattle.program_words.proofs.reading.with_sink_options.Goals as goal

pub returns : goal.returns
returns c =
    let first = c.in_ok-command.ensures ∙ ap (λ a. with_rule a (made_rule (codes "config") true)) c.new-command.ensures.app in
    let second = c.in_ok-command-2.ensures ∙ ap (λ a. with_rule a (made_rule (codes "server") true)) first in
    let third = c.in_ok-command-3.ensures ∙ ap (λ a. with_rule a (made_rule (codes "invocation") true)) second in
    let fourth = c.in_ok-command-4.ensures ∙ ap (λ a. with_rule a (made_rule (codes "format") true)) third in
    IfOk-weaker c.with_option-5.result _ _ (λ command has. has ∙ ap (λ a. with_rule a (made_rule (codes "prefix") false)) fourth)
    c.with_option-5.ensures
