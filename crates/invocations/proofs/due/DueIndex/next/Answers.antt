use Rattle.std.proofs.Common.{◌≡◌, ◌≤ℤ◌, ◌<ℤ◌, true, false, rules}
use Rattle.invocations.proofs.OrderedRows.{first_is, first_none, next_due, none_due, none_active}
use Rattle.invocations.proofs.due.DueIndex.next.Goals as goal

pub returns-then-le : goal.returns-then-le
returns-then-le c =
    let come : c.in-Some.due.now.deadline ≤ℤ c.args.moment = search rules in
    let first = first_is c.args.self.now.entries.items c.in-Some.due.now c.in-Some.ensures.item.3.0 c.in-Some.ensures.lookup in
    λ rows index. next_due rows c.args.moment c.args.self.now.entries.items c.in-Some.due.now index first come

pub returns-else-le : goal.returns-else-le
returns-else-le c =
    let later : c.args.moment <ℤ c.in-Some.due.now.deadline = search rules in
    let first = first_is c.args.self.now.entries.items c.in-Some.due.now c.in-Some.ensures.item.3.0 c.in-Some.ensures.lookup in
    λ rows index. none_due rows c.args.moment c.args.self.now.entries.items c.in-Some.due.now index first later

pub returns-in_default : goal.returns-in_default
returns-in_default c =
    let entries = c.args.self.now.entries in
    let none = first_none entries.items entries.len entries.ok.0 (λ some. let no : false ≡ true = c.in_default.ensures.variant.1 some in cc) in
    λ rows index. none_active rows c.args.moment entries.items index none
