use Rattle.std.proofs.Common.{◌≡◌, ◌<◌, ◌+◌, Option, subst, sym, get_or, arith}
use Rattle.std.specs.List.{remove}
use Rattle.std.specs.Option.{OnSome}
use Rattle.invocations.specs.declared.due.Due.{Due}
use Rattle.lists.specs.Orders.{IsRising, HasOneFewer}
use Rattle.invocations.specs.Orders.{due_order}
use Rattle.lists.proofs.OrderLemmas.{rising_remove, one_fewer_remove}
use Rattle.invocations.proofs.OrderedRows.{due_order_total, same_due}
use Rattle.invocations.proofs.due.DueIndex.remove.Goals as goal

pub returns-in-Ok-clause-rising : goal.returns-in-Ok-clause-rising
returns-in-Ok-clause-rising c =
    let now = c.args.self.now.entries in
    let there : c.in-Ok.at < now.len = omega (arith, c.in-Ok.ensures.0, now.ok.0) in
    let is : c.remove.new.self.items ≡ remove now.items c.in-Ok.at =
    subst (λ (o : Option Due). OnSome o (c.remove.new.self.items ≡ remove now.items c.in-Ok.at)) (c.remove.ensures.succeeds c.args.due there) c.remove.ensures.items in
    subst (IsRising due_order) (sym is)
    (rising_remove due_order c.args.self.now.entries.items c.in-Ok.at c.args.due c.in-Ok.ensures.0 c.requires.rising)

pub returns-in-Ok-clause-entries : goal.returns-in-Ok-clause-entries
returns-in-Ok-clause-entries c =
    let entries = c.args.self.now.entries.items in
    let at = get_or entries c.in-Ok.at c.args.due in
    let same = same_due at c.args.due (c.in-Ok.ensures.1 c.args.due) in
    let now = c.args.self.now.entries in
    let there : c.in-Ok.at < now.len = omega (arith, c.in-Ok.ensures.0, now.ok.0) in
    let is : c.remove.new.self.items ≡ remove now.items c.in-Ok.at =
    subst (λ (o : Option Due). OnSome o (c.remove.new.self.items ≡ remove now.items c.in-Ok.at)) (c.remove.ensures.succeeds c.args.due there) c.remove.ensures.items in
    subst (HasOneFewer entries c.args.due) (sym is)
    (subst (λ (d : Due). HasOneFewer entries d (remove entries c.in-Ok.at)) same
    (one_fewer_remove due_order_total entries c.in-Ok.at c.args.due c.in-Ok.ensures.0 c.requires.rising))

pub returns-in-Ok-clause-len : goal.returns-in-Ok-clause-len
returns-in-Ok-clause-len c =
    let now = c.args.self.now.entries in
    let there : c.in-Ok.at < now.len = omega (arith, c.in-Ok.ensures.0, now.ok.0) in
    subst (λ (o : Option Due). OnSome o (c.remove.new.self.len + 1 ≡ now.len)) (c.remove.ensures.succeeds c.args.due there) c.remove.ensures.len
