use Rattle.std.proofs.Common.{sym, ◌∙◌}
use Rattle.policy_checks.proofs.PlaceLemmas.{group_place, group_none}
use Rattle.policy_checks.proofs.book.members_of.Goals as goal

pub returns-in-Some : goal.returns-in-Some
returns-in-Some c = c.members_at.ensures ∙ group_place c.args.name.now c.args.book.now.groups c.in-Some.place (sym c.in-Some.ensures)

pub returns-in-None : goal.returns-in-None
returns-in-None c = group_none c.args.name.now c.args.book.now.groups (sym c.in-None.ensures)
