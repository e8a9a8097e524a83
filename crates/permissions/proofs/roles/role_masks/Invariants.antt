use Rattle.permissions.specs.Grants.{AreMasksBefore}
use Rattle.permissions.proofs.roles.role_masks.Given as goal

abbrev pub invariant-loop-role : goal.invariant-loop-role
invariant-loop-role l = AreMasksBefore l.roles l.role-index l.masks.items
