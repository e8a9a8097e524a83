use Rattle.std.proofs.Common.{◌≡◌, ℕ, ◌||◌, ◌&&◌, take}
use Rattle.std.specs.List.{list_any}
use Rattle.policy_checks.specs.declared.permission.Permission.{Permission}
use Rattle.permissions.specs.Allows.{gives}
use Rattle.permissions.specs.Grants.{granted}
use Rattle.permissions.specs.Masks.{has_bit}
use Rattle.permissions.proofs.grants.push_principals.Given as goal

abbrev pub invariant-loop-text : goal.invariant-loop-text
invariant-loop-text l = (u : ℕ) (p : Permission)
    → granted l.book u p l.grants ≡ (granted l.book u p l.initial.grants || (list_any (gives l.book u) (take l.text-index l.texts) && has_bit l.mask p))
