use Rattle.std.proofs.Common.{ℕ, List, IsTrue, Contains, Vec, Global, ◌↔◌, ap, ◌∙◌, subst}
use Rattle.inclusion_graph.proofs.FreshLemmas.{item_held, item_new}
use Rattle.inclusion_graph.proofs.fresh.join.Goals as goal
use Rattle.inclusion_graph.proofs.fresh.join.Goals.{then-is_new, else-is_new}

pub returns-clause-all : goal.returns-clause-all
returns-clause-all c =
    let all = c.args.all.now.items in
    let says = subst (λ (xs : List ℕ). IsTrue c.is_new.result ↔ (¬ Contains xs c.args.target)) c.as_slice-2.ensures.value c.is_new.ensures in
    elim c.if-is_new.branch [
      | then-is_new w ↦ ap (λ (v : Vec ℕ Global). v.items) w.all-is ∙ w.push_reserved.ensures.items ∙ item_new all c.args.target (says.0 w.if-is_new.true)
      | else-is_new w ↦ ap (λ (v : Vec ℕ Global). v.items) w.all-is ∙ item_held all c.args.target c.is_new.result w.if-is_new.false says
    ]
