use Rattle.std.proofs.Common.{Option, subst}
use Rattle.service_core.specs.Again.{IsPreparedAgain, again_of}
use Rattle.service_core.specs.CoreState.{PlanState, world_in}
use Rattle.service_replay.proofs.AgainLaws.{done_again, never_again}
use Rattle.service_replay.proofs.replaying.act_again.Goals as goal

pub commit-requires : goal.commit-requires
commit-requires c =
    let context = c.args.context.now in
    let a = again_of c.args.core.now context.moment context.name.now c.args.said c.args.request in
    let prepared = subst (λ (p : Option PlanState). IsPreparedAgain c.prepare_again.new.self a p) c.in-Some.is
    c.in_ok-plan.ensures.prepared in
    prepared.1.3

pub returns-in-Some-clause-ok : goal.returns-in-Some-clause-ok
returns-in-Some-clause-ok c =
    let context = c.args.context.now in
    let mid = c.prepare_again.new.self in
    let a = again_of c.args.core.now context.moment context.name.now c.args.said c.args.request in
    let prepared = subst (λ (p : Option PlanState). IsPreparedAgain mid a p) c.in-Some.is c.in_ok-plan.ensures.prepared in
    done_again c.args.core.now mid context.moment context.name.now c.args.said c.args.request c.in-Some.plan
    (world_in c.commit.new.self) c.in_ok-plan.ensures.roomier prepared c.commit.ensures.world

pub returns-in-None-clause-refused : goal.returns-in-None-clause-refused
returns-in-None-clause-refused c = λ next.
    let context = c.args.context.now in
    let mid = c.prepare_again.new.self in
    let a = again_of c.args.core.now context.moment context.name.now c.args.said c.args.request in
    let prepared = subst (λ (p : Option PlanState). IsPreparedAgain mid a p) c.in-None.is c.in_ok-plan.ensures.prepared in
    never_again c.args.core.now mid context.moment context.name.now c.args.said c.args.request next
    c.in_ok-plan.ensures.roomier prepared
