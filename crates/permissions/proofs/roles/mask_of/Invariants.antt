use Rattle.std.proofs.Common.{◌≡◌, take}
use Rattle.std.specs.List.{list_any}
use Rattle.policy_checks.specs.declared.permission.Permission.{Permission}
use Rattle.policy_checks.specs.Permissions.{permission_of}
use Rattle.permissions.specs.Allows.{is_permission}
use Rattle.permissions.specs.Masks.{has_bit}
use Rattle.permissions.proofs.roles.mask_of.Given as goal

abbrev pub invariant-loop-text : goal.invariant-loop-text
invariant-loop-text l = (p : Permission) → has_bit l.mask p ≡ list_any (λ x. is_permission p (permission_of x)) (take l.text-index l.texts)
