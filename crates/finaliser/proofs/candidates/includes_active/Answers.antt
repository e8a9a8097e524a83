use Rattle.std.proofs.Common.{◌≡◌, false, true, Contains, get_or, refl, subst}
use Rattle.std.proofs.lemmas.List.Elements.{Contains-get_or}
use Rattle.finaliser.proofs.WaitLemmas.{includes_reaches}
use Rattle.finaliser.proofs.candidates.includes_active.Goals as goal

pub returns-then-is_active : goal.returns-then-is_active
returns-then-is_active c = λ yes_.
    let targets = c.targets-target-items.result.now in
    let i = c.loop-target.target-index in
    includes_reaches c.args.graph.now.edges c.args.states.now c.args.node (get_or targets i 0)
    (subst (λ xs. Contains xs (get_or targets i 0)) c.targets-target-items.ensures.targets (Contains-get_or targets i 0 c.loop-target-test.true))
    (c.if-is_active.ensures.0 refl)

pub returns : goal.returns
returns c = λ no. let never : false ≡ true = no in cc
