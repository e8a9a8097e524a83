use Rattle.std.proofs.Common.{drop, Option}
use Rattle.request_rules.specs.Broken.{Lacks}
use Rattle.request_rules.specs.Rights.{Right, rights_in}
use Rattle.request_demands.specs.Order.{FirstOf}
use Rattle.request_rules.proofs.rights.Asker.lacks_in.Given as goal

-- the first of those to come is the first of all
abbrev pub invariant-loop-place : goal.invariant-loop-place
invariant-loop-place l =
    (found : Option Right)
    → FirstOf (Lacks l.self.policy.now l.self.caller) (rights_in l.table.rows l.takes (drop l.place-index l.places)) found
    → FirstOf (Lacks l.self.policy.now l.self.caller) (rights_in l.table.rows l.takes l.places) found
