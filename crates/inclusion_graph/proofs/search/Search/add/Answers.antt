use Rattle.std.proofs.Common.{◌≡◌, nat_eq, None, ◌++◌, ◌∷◌, [], cond, Some, length, refl, sym, ap, ◌∙◌, subst, arith}
use Rattle.std.specs.Map.{lookup}
use Rattle.std.proofs.lemmas.Grind.{common_steps}
use Rattle.inclusion_graph.specs.declared.search.Step.{Step}
use Rattle.inclusion_graph.specs.Searches.{IsPlaced}
use Rattle.inclusion_graph.proofs.SearchLemmas.{found_contained, grown_old, placed_more}
use Rattle.inclusion_graph.proofs.search.Search.add.Goals as goal

pub returns-in_ok-insert-clause-placed : goal.returns-in_ok-insert-clause-placed
returns-in_ok-insert-clause-placed c =
    let step : Step = record { node = c.args.node; back = c.args.back } in
    let steps = c.args.self.now.steps.items in
    let places = c.args.self.now.places.entries in
    let new = c.insert.new.self.entries in
    let is : c.push.new.self.items ≡ steps ++ step ∷ [] = grind (arith, common_steps) in
    let count : c.len-place.result ≡ length steps = omega (arith, c.len-place.ensures, c.args.self.now.steps.ok.0) in
    let none : lookup (nat_eq c.args.node) places ≡ None = grind (arith, common_steps) in
    subst (IsPlaced new) (sym is) (placed_more places new steps step c.requires none
    (λ n. c.in_ok-insert.ensures.updates.0 n ∙ ap (λ i. cond (nat_eq c.args.node n) (Some i) (lookup (nat_eq n) places)) count))

pub returns-else-not-contains_key-clause-steps : goal.returns-else-not-contains_key-clause-steps
returns-else-not-contains_key-clause-steps c =
    let steps = c.args.self.now.steps.items in
    let places = c.args.self.now.places.entries in
    let some : lookup (nat_eq c.args.node) places ≡ None → ⊥ = λ e. grind (arith, common_steps, e) in
    grown_old steps c.args.node c.args.back (found_contained places steps c.args.node (lookup (nat_eq c.args.node) places) c.requires refl some)
