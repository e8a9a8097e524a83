use Rattle.std.proofs.Common.{ℕ, List, Contains, refl, sym, subst, inr}
use Rattle.finaliser.proofs.NodeLemmas.{added}
use Rattle.finaliser.proofs.candidates.add_if.Goals as goal

pub returns-then-is_so-clause-there : goal.returns-then-is_so-clause-there
returns-then-is_so-clause-there c = λ is.
    subst (λ (xs : List ℕ). Contains xs c.args.node) (sym c.add.ensures.nodes) ((added c.args.set.now.nodes c.args.node c.args.node).1 (inr refl))
