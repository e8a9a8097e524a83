use Rattle.std.proofs.Common.{◌≡◌, ℕ, take, nat_cmp}
use Rattle.std.specs.BTreeSet.{contains}
use Rattle.std.specs.List.{list_any}
use Rattle.permissions.specs.Allows.{is_user}
use Rattle.permissions.proofs.members.places_of_users.Given as goal

abbrev pub invariant-loop-name : goal.invariant-loop-name
invariant-loop-name l = (u : ℕ) → contains nat_cmp l.places u ≡ list_any (is_user l.book u) (take l.name-index l.names)
