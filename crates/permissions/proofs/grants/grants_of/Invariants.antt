use Rattle.std.proofs.Common.{◌≡◌, ℕ, take}
use Rattle.std.specs.List.{list_any}
use Rattle.policy_checks.specs.declared.permission.Permission.{Permission}
use Rattle.permissions.specs.Allows.{binds_in}
use Rattle.permissions.specs.Grants.{granted}
use Rattle.permissions.proofs.grants.grants_of.Given as goal

abbrev pub invariant-loop-binding : goal.invariant-loop-binding
invariant-loop-binding l = (u : ℕ) (p : Permission) → granted l.book u p l.grants ≡ list_any (binds_in l.book u p) (take l.binding-index l.bindings)
