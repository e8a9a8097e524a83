use Rattle.std.proofs.Common.{◌≡◌, ◌++◌, drop}
use Rattle.policy_checks.specs.Checks.{realm_names}
use Rattle.permissions.specs.Graph.{places_in}
use Rattle.permissions.proofs.realms.places_of.Given as goal

abbrev pub invariant-loop-name : goal.invariant-loop-name
invariant-loop-name l = l.places.items ++ places_in (realm_names l.book) (drop l.name-index l.names) ≡ places_in (realm_names l.book) l.names
