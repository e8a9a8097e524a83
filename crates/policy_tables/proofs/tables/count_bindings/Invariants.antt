use Rattle.std.proofs.Common.{◌≡◌, length, take}
use Rattle.std.specs.Prelude.{sum_by}
use Rattle.policy_tables.specs.Entries.{capped}
use Rattle.policy_tables.proofs.tables.count_bindings.Given as goal

abbrev pub invariant-loop-realm : goal.invariant-loop-realm
invariant-loop-realm l = l.count ≡ capped (sum_by (λ r. length r.bindings) (take l.realm-index l.realms))
