use Rattle.std.proofs.Common.{sym}
use Rattle.std.specs.Prelude.{unwrap_or}
use Rattle.std.proofs.Common.{nat_cmp}
use Rattle.std.specs.BTreeMap.{get}
use Rattle.permissions.specs.Masks.{has_bit}
use Rattle.permissions.proofs.GrantLemmas.{group_more, group_less}
use Rattle.permissions.proofs.grants.push_group.Goals as goal

pub returns-in_ok-push-in-Some-group : goal.returns-in_ok-push-in-Some-group
returns-in_ok-push-in-Some-group c = λ u p.
    rw c.in-Some.is
    (group_more c.args.book.now u p c.in-Some.name.now c.in-Some-group.group c.args.mask (has_bit (unwrap_or (get nat_cmp c.args.grants.now.users u) 0) p)
    c.args.grants.now.groups.items c.push.new.self.items (sym c.in-Some-group.ensures) c.in_ok-push-in-Some-group.ensures.items)

pub returns-in-None : goal.returns-in-None
returns-in-None c = λ u p. rw c.in-Some.is (group_less c.args.book.now u p c.in-Some.name.now c.args.mask _ (sym c.in-None.ensures))
