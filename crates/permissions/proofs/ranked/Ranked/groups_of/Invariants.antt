use Rattle.std.proofs.Common.{◌≡◌, map, take, nat_cmp}
use Rattle.std.specs.BTreeSet.{contains}
use Rattle.permissions.proofs.ranked.Ranked.groups_of.Given as goal

abbrev pub invariant-loop-members : goal.invariant-loop-members
invariant-loop-members l = l.marks.items ≡ map (λ m. contains nat_cmp m.places l.user) (take l.members-index l.self.members.items)
