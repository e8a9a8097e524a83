use Rattle.permissions.specs.Grants.{AreGrants}
use Rattle.permissions.proofs.grants.all_grants.Given as goal

abbrev pub invariant-loop-place : goal.invariant-loop-place
invariant-loop-place l = AreGrants l.book l.places l.place-index l.grants.items
