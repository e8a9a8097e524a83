use Rattle.service_core.specs.RequestDemands.Numbered.{asked_again}
use Rattle.service_replay.proofs.AgainLaws.{repeat_is_used, reused_is_used, unused_in}
use Rattle.service_replay.proofs.replaying.number_again.Goals as goal

pub returns-in_ok-numbered_in-in-New-clause-unused : goal.returns-in_ok-numbered_in-in-New-clause-unused
returns-in_ok-numbered_in-in-New-clause-unused c =
    let asked = asked_again c.args.method c.args.call.now.body.now in
    unused_in _ c.args.core.now.keeps c.args.call.now.caller.now asked c.args.demand.now c.in_ok-check_digest.field-0 c.kept.ensures
    (c.in_ok-check_digest.ensures asked c.digest_again-digest.ensures) c.in-New.is

pub returns-in-Repeat-clause-refused : goal.returns-in-Repeat-clause-refused
returns-in-Repeat-clause-refused c = λ e unused.
    let asked = asked_again c.args.method c.args.call.now.body.now in
    repeat_is_used _ c.args.core.now.keeps c.args.call.now.caller.now asked c.args.demand.now c.in_ok-check_digest.field-0 c.in-Repeat.field-0
    c.kept.ensures (c.in_ok-check_digest.ensures asked c.digest_again-digest.ensures) c.in-Repeat.is unused

pub returns-in-Reused-clause-refused : goal.returns-in-Reused-clause-refused
returns-in-Reused-clause-refused c = λ e unused.
    let asked = asked_again c.args.method c.args.call.now.body.now in
    reused_is_used _ c.args.core.now.keeps c.args.call.now.caller.now asked c.args.demand.now c.in_ok-check_digest.field-0 c.kept.ensures
    (c.in_ok-check_digest.ensures asked c.digest_again-digest.ensures) c.in-Reused.is unused
