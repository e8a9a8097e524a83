use Rattle.std.proofs.Common.{◌≡◌, ◌++◌, drop}
use Rattle.policy_checks.specs.Checks.{realm_names}
use Rattle.permissions.specs.Graph.{graph_from}
use Rattle.permissions.proofs.realms.all_places.Given as goal

abbrev pub invariant-loop-realm : goal.invariant-loop-realm
invariant-loop-realm l = l.graph.items ++ graph_from (realm_names l.book) (drop l.realm-index l.realms) ≡ graph_from (realm_names l.book) l.realms
