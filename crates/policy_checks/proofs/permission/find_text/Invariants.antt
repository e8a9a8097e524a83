use Rattle.std.proofs.Common.{◌≡◌, drop}
use Rattle.std.specs.List.{find}
use Rattle.std.specs.Str.{bytes_eq}
use Rattle.policy_checks.specs.Permissions.{permission_text}
use Rattle.policy_checks.proofs.permission.find_text.Given as goal

-- none of those so far has the text
abbrev pub invariant-loop-permission : goal.invariant-loop-permission
invariant-loop-permission l =
    find (λ p. bytes_eq (permission_text p) l.text) (drop l.permission-index l.permissions) ≡ find (λ p. bytes_eq (permission_text p) l.text) l.permissions
