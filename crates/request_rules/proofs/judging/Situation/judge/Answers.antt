use Rattle.std.proofs.Common.{option_map, sym, subst}
use Rattle.request_rules.specs.Askers.{MayJudge}
use Rattle.request_rules.specs.Breaches.{case_of, refusal_of}
use Rattle.request_rules.specs.Broken.{IsBroken}
use Rattle.request_demands.specs.Demands.{Demand}
use Rattle.request_demands.specs.Order.{Judges}
use Rattle.request_demands.specs.Numbered.{IsNumbered}
use Rattle.request_demands.specs.Settings.{Settings, caller_name}
use Rattle.request_demands.specs.Understood.{IsChecked}
use Rattle.request_rules.proofs.judging.Situation.judge.Goals as goal

pub returns : goal.returns
returns c = λ kept asked is numbered.
    let s : Settings = record { policy = c.args.self.now.policy.now } in
    subst (λ (d : Demand). Judges (IsBroken (case_of c.args.self.now kept asked c.args.call.now.caller) d) c.args.rules.now
    (option_map refusal_of c.judge_demand.result)) c.demand_of.ensures
    (c.judge_demand.ensures kept asked
    (subst (λ (d : Demand). IsChecked s asked d c.args.call.now.token) (sym c.demand_of.ensures) is.token_is)
    (subst (λ (d : Demand). IsNumbered kept (caller_name s c.args.call.now.caller) asked d c.args.self.now.number) (sym c.demand_of.ensures) numbered))

pub judge_demand-requires : goal.judge_demand-requires
judge_demand-requires c =
    subst (λ (d : Demand). MayJudge c.args.self.now c.args.call.now.caller d) (sym c.demand_of.ensures) c.requires
