use Rattle.std.proofs.Common.{◌≡◌, ◌≤◌, ◌+◌, subst, sym, arith}
use Rattle.std.specs.List.{insert}
use Rattle.lists.specs.Orders.{IsRising, HasOneMore}
use Rattle.invocations.specs.Orders.{due_order}
use Rattle.lists.proofs.OrderLemmas.{rising_insert, one_more_insert}
use Rattle.invocations.proofs.RowLemmas.{if_ok}
use Rattle.invocations.proofs.OrderedRows.{due_order_total}
use Rattle.invocations.proofs.due.DueIndex.add.Goals as goal

pub returns-in-Err-clause-rising : goal.returns-in-Err-clause-rising
returns-in-Err-clause-rising c =
    let entries = c.args.self.now.entries.items in
    let now = c.args.self.now.entries in
    let is : c.insert.new.self.items ≡ insert entries c.in-Err.at c.args.due =
    if_ok c.insert.result (c.insert.new.self.items ≡ insert entries c.in-Err.at c.args.due) (now.cap ≤ now.len) c.insert.ensures.items c.insert.ensures.full
    (λ full. omega (arith, full, c.requires.room)) in
    subst (IsRising due_order) (sym is)
    (rising_insert due_order_total entries c.in-Err.at c.args.due c.requires.rising c.in-Err.ensures.0 c.in-Err.ensures.1)

pub returns-in-Err-clause-entries : goal.returns-in-Err-clause-entries
returns-in-Err-clause-entries c =
    let entries = c.args.self.now.entries.items in
    let now = c.args.self.now.entries in
    let is : c.insert.new.self.items ≡ insert entries c.in-Err.at c.args.due =
    if_ok c.insert.result (c.insert.new.self.items ≡ insert entries c.in-Err.at c.args.due) (now.cap ≤ now.len) c.insert.ensures.items c.insert.ensures.full
    (λ full. omega (arith, full, c.requires.room)) in
    subst (HasOneMore entries c.args.due) (sym is) (one_more_insert entries c.in-Err.at c.args.due)

pub returns-in-Err-clause-len : goal.returns-in-Err-clause-len
returns-in-Err-clause-len c =
    let now = c.args.self.now.entries in
    if_ok c.insert.result (c.insert.new.self.len ≡ now.len + 1) (now.cap ≤ now.len) c.insert.ensures.len c.insert.ensures.full
    (λ full. omega (arith, full, c.requires.room))
