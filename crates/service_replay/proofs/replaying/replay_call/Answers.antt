use Rattle.std.proofs.Common.{Err, refl, sym, ap, ◌∙◌}
use Rattle.recorded_calls.specs.Commands.{call_said}
use Rattle.service_replay.specs.declared.replaying.ReplayFault.TheVariants.{OutOfPlace}
use Rattle.service_core.specs.CoreState.{world_in}
use Rattle.service_replay.proofs.AgainLaws.{refused_as, refused_more, same_fault}
use Rattle.service_replay.proofs.ReplayLaws.{acts_as, asks_as}
use Rattle.service_replay.proofs.replaying.replay_call.Goals as goal

pub returns-in-Err-clause-refused : goal.returns-in-Err-clause-refused
returns-in-Err-clause-refused c =
    let w = world_in c.args.core.now in
    let call = call_said c.args.call.now in
    refused_as _ (Err c.in-Err.fault)
    (λ e next q. c.in-Err.ensures.refused (ap Err (same_fault c.in-Err.fault OutOfPlace _ _ refl refl e)) q.request
    (asks_as w call c.in-Some.method next (sym c.recorded_method.ensures ∙ c.in-Some.is) q))

pub returns-in-Ok-clause-refused : goal.returns-in-Ok-clause-refused
returns-in-Ok-clause-refused c =
    let w = world_in c.args.core.now in
    let call = call_said c.args.call.now in
    refused_more _ _ c.make_again.result
    (λ next q. acts_as w call c.in-Some.method c.in-Ok.request next (sym c.recorded_method.ensures ∙ c.in-Some.is) c.in-Ok.ensures.ok q)
    c.make_again.ensures.refused
