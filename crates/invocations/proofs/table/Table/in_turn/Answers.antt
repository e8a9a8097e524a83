use Rattle.std.proofs.Common.{IfSome, subst}
use Rattle.names_realms.specs.declared.states.State.TheVariants.{Active}
use Rattle.invocations.specs.Rows.{IsInState, TableState}
use Rattle.invocations.specs.Orders.{IsInTurn}
use Rattle.invocations.proofs.OrderedRows.{active_in_turn, turn_is}
use Rattle.invocations.proofs.table.Table.in_turn.Goals as goal

pub returns-clause-turn : goal.returns-clause-turn
returns-clause-turn c =
    let t = c.self.inside in
    subst (λ (s : TableState). IsInTurn s.rows c.args.turn c.at.result) c.self.view_is
    (turn_is t.rows.items t.by_deadline.entries.items c.args.turn c.at.result c.self.invariant.due c.at.ensures)

pub returns-clause-active : goal.returns-clause-active
returns-clause-active c =
    let t = c.self.inside in
    let turn = turn_is t.rows.items t.by_deadline.entries.items c.args.turn c.at.result c.self.invariant.due c.at.ensures in
    subst (λ (s : TableState). IfSome c.at.result (IsInState Active s.rows)) c.self.view_is
    (active_in_turn t.rows.items c.args.turn c.at.result turn)
