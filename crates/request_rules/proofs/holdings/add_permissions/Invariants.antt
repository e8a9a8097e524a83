use Rattle.std.proofs.Common.{◌≡◌, ◌++◌, take}
use Rattle.std.specs.List.{flat_map}
use Rattle.request_demands.specs.Grants.{permissions_of}
use Rattle.request_rules.proofs.holdings.add_permissions.Given as goal

abbrev pub invariant-loop-grant : goal.invariant-loop-grant
invariant-loop-grant l = l.asked.items ≡ l.initial.asked.items ++ flat_map permissions_of (take l.grant-index l.grants)
