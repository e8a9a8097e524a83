use Rattle.std.proofs.Common.{ℕ, List, Contains, refl, sym, subst, inl, inr}
use Rattle.finaliser.proofs.NodeLemmas.{added}
use Rattle.finaliser.proofs.candidates.add_candidate.Goals as goal

pub returns-clause-there : goal.returns-clause-there
returns-clause-there c = λ is.
    inl (subst (λ (xs : List ℕ). Contains xs c.args.node) (sym c.add.ensures.nodes) ((added c.args.set.now.nodes c.args.node c.args.node).1 (inr refl)))
