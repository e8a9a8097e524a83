use Rattle.permissions.specs.Grants.{AreMembers}
use Rattle.permissions.proofs.members.all_members.Given as goal

abbrev pub invariant-loop-group : goal.invariant-loop-group
invariant-loop-group l = AreMembers l.book l.groups l.group-index l.members.items
