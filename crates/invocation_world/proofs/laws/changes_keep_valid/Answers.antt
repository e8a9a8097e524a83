use Rattle.invocation_world.proofs.KeepFacts.{MayChange, keeps_added, keeps_included, keeps_moment, keeps_retired, keeps_updated}
use Rattle.invocation_world.proofs.laws.changes_keep_valid.Goals as goal

pub returns : goal.returns
returns c = λ moment w place valid call later quiet.
    let may : MayChange moment w = record { valid = valid; call = call; later = later; quiet = quiet } in (
      λ row can is active at. keeps_added moment w row may can is active at,
      λ after active s. keeps_retired moment w place after may active s,
      λ deadline tags active given pairs. keeps_updated moment w place deadline tags may active given pairs,
      λ targets active are few. keeps_included moment w place targets may active are few,
      keeps_moment moment w may,
    )
