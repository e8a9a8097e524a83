use Rattle.invocation_world.proofs.FinalFacts.{row_final, begin_final, update_final, inclusions_final, moment_final}
use Rattle.invocation_world.proofs.laws.changes_keep_final.Goals as goal

pub returns : goal.returns
returns c = λ moment w place valid. (
  λ row. row_final w row,
  λ active. begin_final moment w place active,
  λ deadline tags active. update_final moment w place deadline tags active,
  λ targets active. inclusions_final moment w place targets valid active,
  moment_final moment w,
)
