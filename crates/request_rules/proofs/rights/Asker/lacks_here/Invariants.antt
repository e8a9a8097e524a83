use Rattle.std.proofs.Common.{drop, Option, Some}
use Rattle.request_rules.specs.Broken.{Lacks}
use Rattle.request_rules.specs.Rights.{Right, rights_here}
use Rattle.request_demands.specs.Order.{FirstOf}
use Rattle.request_rules.proofs.rights.Asker.lacks_here.Given as goal

-- the first of those to come is the first of all
abbrev pub invariant-loop-grant : goal.invariant-loop-grant
invariant-loop-grant l =
    (found : Option Right)
    → FirstOf (Lacks l.self.policy.now l.self.caller) (rights_here (Some l.realm) (drop l.grant-index l.takes)) found
    → FirstOf (Lacks l.self.policy.now l.self.caller) (rights_here (Some l.realm) l.takes) found
