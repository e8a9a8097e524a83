use Rattle.std.proofs.Common.{List, MatchOption, subst}
use Rattle.invocations.specs.Rows.{HasId, IsPlaceOf, TableState}
use Rattle.invocations.specs.declared.invocation.Invocation.{Invocation}
use Rattle.invocations.proofs.table.Table.find.Goals as goal

pub returns-clause-place : goal.returns-clause-place
returns-clause-place c =
    subst (λ (t : TableState). MatchOption c.find_id.result (¬ HasId t.rows c.args.id.now) (IsPlaceOf t.rows c.args.id.now)) c.self.view_is
    (subst (λ (rows : List Invocation). MatchOption c.find_id.result (¬ HasId rows c.args.id.now) (IsPlaceOf rows c.args.id.now)) c.as_slice.ensures.value c.find_id.ensures)
