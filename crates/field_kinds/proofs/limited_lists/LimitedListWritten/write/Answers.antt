use Rattle.std.proofs.lemmas.Result.{on_ok_weaker}
use Rattle.field_kinds.proofs.ListLaws.{limited_written}
use Rattle.field_kinds.proofs.limited_lists.LimitedListWritten.write.Goals as goal

pub returns-clause-again : goal.returns-clause-again
returns-clause-again g c =
    on_ok_weaker c.write.result (λ w. limited_written g.R.ListRule.limit g.T.Form.fault g.T.Form.means g.T.Written.json c.self.inside.list c.args.self.now c.self.view_is w c.self.invariant) c.write.ensures.again
