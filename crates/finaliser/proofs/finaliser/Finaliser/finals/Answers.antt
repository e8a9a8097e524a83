use Rattle.std.proofs.Common.{◌<◌, length, sym, subst}
use Rattle.std.specs.List.{All}
use Rattle.finaliser.specs.Settling.{FinaliserState}
use Rattle.finaliser.proofs.finaliser.Finaliser.finals.Goals as goal

pub returns-clause-within : goal.returns-clause-within
returns-clause-within c =
    let low = subst (All (λ n. n < length c.self.inside.states.items)) (sym c.as_slice.ensures.value) c.self.invariant.0.within in
    subst (λ (f : FinaliserState). All (λ n. n < length f.states) c.as_slice.result.now) c.self.view_is low
