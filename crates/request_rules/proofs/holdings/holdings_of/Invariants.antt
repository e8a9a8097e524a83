use Rattle.std.proofs.Common.{◌≡◌, map, take}
use Rattle.std.specs.List.{All}
use Rattle.request_rules.specs.Askers.{IsHeldBy}
use Rattle.request_rules.proofs.holdings.holdings_of.Given as goal

abbrev pub invariant-loop-permission : goal.invariant-loop-permission
invariant-loop-permission l = record {
  held : All (IsHeldBy l.policy l.caller) l.found.items;
  asked : map (λ held. held.permission) l.found.items ≡ take l.permission-index l.asked;
}
