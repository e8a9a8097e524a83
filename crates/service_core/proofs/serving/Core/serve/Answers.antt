use Rattle.std.proofs.Common.{FitsSigned, w64, to_z-of_z}
use Rattle.service_core.specs.CoreState.{world_in}
use Rattle.service_core.proofs.ServeLaws.{serves_after, serves_nothing}
use Rattle.service_core.proofs.serving.Core.serve.Goals as goal

pub answer-requires-clause-timely : goal.answer-requires-clause-timely
answer-requires-clause-timely c = c.in-Ok.ensures.timely

pub returns-in-Ok : goal.returns-in-Ok
returns-in-Ok c = λ seat asked rose is.
    let fits : FitsSigned w64 c.args.now = c.ranges.now in
    let value = simp to_z-of_z at c.moment_of-moment.ensures.value in
    serves_after (record { policy = c.args.policy.now }) (world_in c.args.self.now) (world_in c.catch_up.new.self) (world_in c.answer.new.self)
    seat c.args.now c.moment_of-moment.result asked c.answer.result rose value c.moment_of-moment.ensures.in_range
    c.moment_of-moment.ensures.later c.in-Ok.ensures.ok (c.answer.ensures asked is)

pub returns-in-Err : goal.returns-in-Err
returns-in-Err c = λ seat asked rose is.
    let fits : FitsSigned w64 c.args.now = c.ranges.now in
    let value = simp to_z-of_z at c.moment_of-moment.ensures.value in
    serves_nothing (record { policy = c.args.policy.now }) (world_in c.args.self.now) (world_in c.catch_up.new.self) seat c.args.now
    c.moment_of-moment.result asked rose value c.moment_of-moment.ensures.in_range c.moment_of-moment.ensures.later
    c.in-Err.ensures.err
