use Rattle.std.proofs.Common.{◌≡◌, ◌<◌, ℕ, List, ◌++◌, ◌∷◌, [], Option, Some, None, length, reverse, refl, sym, ap, ◌∙◌, subst, arith}
use Rattle.std.proofs.lemmas.Grind.{common_steps}
use Rattle.std.proofs.lemmas.List.{reverse-append}
use Rattle.std.proofs.lemmas.Option.{same_Some}
use Rattle.inclusion_graph.specs.Edges.{HasEdge}
use Rattle.inclusion_graph.specs.Walks.{Leads}
use Rattle.inclusion_graph.proofs.SearchLemmas.{back_root, back_step, node_at}
use Rattle.inclusion_graph.proofs.WalkLemmas.{leads_cons}
use Rattle.inclusion_graph.proofs.graph.Graph.walk_back.Goals as goal

none_from : (o : Option ℕ) → ((x : ℕ) → o ≡ Some x → ⊥) → o ≡ None
none_from None h = refl
none_from (Some x) h = absurd (h x refl)

pub index-requires-in-Some : goal.index-requires-in-Some
index-requires-in-Some c =
    let steps = c.args.search.now.steps.items in
    let step = c.index-in-back.result.now in
    let back = back_step c.args.self.now.edges (c.args.from ∷ []) steps c.back.at step c.in-Some.back c.requires.rooted
    c.back.invariant.within c.index-in-back.ensures c.in-Some.is in
    omega (arith, back.0, c.back.invariant.within, c.args.search.now.steps.ok.0)

pub back-smaller : goal.back-smaller
back-smaller c =
    (back_step c.args.self.now.edges (c.args.from ∷ []) c.args.search.now.steps.items c.back.at c.index-in-back.result.now c.in-Some.back
    c.requires.rooted c.back.invariant.within c.index-in-back.ensures c.in-Some.is).0

pub back-preserved : goal.back-preserved
back-preserved c =
    let edges = c.args.self.now.edges in
    let steps = c.args.search.now.steps.items in
    let step = c.index-in-back.result.now in
    let back = back_step edges (c.args.from ∷ []) steps c.back.at step c.in-Some.back c.requires.rooted
    c.back.invariant.within c.index-in-back.ensures c.in-Some.is in
    let within : c.in-Some.back < length steps = omega (arith, back.0, c.back.invariant.within) in
    let next = c.index-in-Some.result.now in
    let at_next = node_at steps c.in-Some.back next within c.index-in-Some.ensures in
    let walk : c.push-in-Some.new.self.items ≡ c.back.walk.items ++ next.node ∷ [] = grind (arith, common_steps) in
    record {
      within = within;
      leads = λ n to here there.
          let same : n ≡ next.node = same_Some n next.node (sym here ∙ at_next) in
          let mid : back.1.0 ≡ n = same_Some back.1.0 n (sym back.1.1 ∙ here) in
          let old = c.back.invariant.leads step.node to (node_at steps c.back.at step c.back.invariant.within c.index-in-back.ensures) there in
          let is : reverse c.push-in-Some.new.self.items ≡ n ∷ reverse c.back.walk.items =
          ap reverse walk ∙ reverse-append c.back.walk.items (next.node ∷ []) ∙ ap (λ m. m ∷ reverse c.back.walk.items) (sym same) in
          subst (λ (w : List ℕ). Leads edges w n to) (sym is)
          (leads_cons edges (reverse c.back.walk.items) n step.node to (subst (λ m. HasEdge edges m step.node) mid back.1.2) old);
    }

pub returns : goal.returns
returns c =
    let edges = c.args.self.now.edges in
    let steps = c.args.search.now.steps.items in
    let step = c.index-in-back.result.now in
    let root = back_root edges c.args.from steps c.back.at step c.requires.rooted c.back.invariant.within c.index-in-back.ensures
    (none_from step.back c.in_default.not-Some) in
    λ to there. rw c.reverse.ensures.items
    (c.back.invariant.leads c.args.from to (node_at steps c.back.at step c.back.invariant.within c.index-in-back.ensures ∙ ap Some root) there)
