use Rattle.std.proofs.Common.{List, drop, Option}
use Rattle.kept_replies.specs.declared.reply.KeptReply.{KeptReply}
use Rattle.call_forms.specs.declared.asked.Asked.{Asked}
use Rattle.call_forms.specs.declared.forms.Refusal.{Refusal}
use Rattle.request_rules.specs.Breaches.{case_of}
use Rattle.request_rules.specs.Broken.{IsBroken}
use Rattle.request_demands.specs.Order.{Judges}
use Rattle.request_demands.specs.Numbered.{IsNumbered}
use Rattle.request_demands.specs.Settings.{caller_name}
use Rattle.request_demands.specs.Understood.{IsChecked}
use Rattle.request_rules.proofs.judging.Situation.judge_demand.Given as goal

-- what the rules to come are judged is what all are
abbrev pub invariant-loop-rule : goal.invariant-loop-rule
invariant-loop-rule l =
    (kept : List KeptReply) (asked : Asked) → IsChecked (record { policy = l.self.policy.now }) asked l.demand l.call.token
    → IsNumbered kept (caller_name (record { policy = l.self.policy.now }) l.call.caller) asked l.demand l.self.number
    → (found : Option Refusal)
    → Judges (IsBroken (case_of l.self kept asked l.call.caller) l.demand) (drop l.rule-index l.rules) found
    → Judges (IsBroken (case_of l.self kept asked l.call.caller) l.demand) l.rules found
