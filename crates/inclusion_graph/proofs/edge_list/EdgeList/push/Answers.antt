use Rattle.std.proofs.Common.{◌≡◌, ◌<◌, ℕ, List, [], ◌∷◌, ◌++◌, Option, Some, None, length, set, refl, sym, ap, ◌∙◌, subst, arith}
use Rattle.std.proofs.lemmas.Option.{slice_get_read}
use Rattle.inclusion_graph.specs.declared.edge.Edge.{Edge}
use Rattle.inclusion_graph.specs.declared.edge_list.Ends.{Ends}
use Rattle.inclusion_graph.specs.Edges.{GraphState}
use Rattle.inclusion_graph.specs.Links.{AreLinked, ends_with}
use Rattle.inclusion_graph.proofs.LinkLemmas.{IsExtended, last_within, linked_edge}
use Rattle.inclusion_graph.proofs.edge_list.EdgeList.push.Goals as goal

pub extend-ends-requires : goal.extend-ends-requires
extend-ends-requires c =
    let ends = c.self.inside.ends.items in
    let within : c.args.edge.to < length ends = subst (λ (g : GraphState). c.args.edge.to < g.nodes) (sym c.self.view_is) c.requires.to in
    last_within c.self.inside.edges.items c.self.inside.next.items ends c.args.edge.to c.index-before.result.now c.self.invariant
    (slice_get_read ends (length ends) c.args.edge.to c.index-before.result.now refl within c.index-before.ensures)

pub invariant_of-self : goal.invariant_of-self
invariant_of-self c =
    let edges = c.self.inside.edges.items in
    let ends = c.self.inside.ends.items in
    let next = c.extend-ends.new.next.items in
    let before = c.index-before.result.now in
    let edge = c.args.edge in
    let within : edge.to < length ends = subst (λ (g : GraphState). edge.to < g.nodes) (sym c.self.view_is) c.requires.to in
    let at = slice_get_read ends (length ends) edge.to before refl within c.index-before.ensures in
    let count : c.len-place.result ≡ length edges = omega (arith, c.len-place.ensures, c.self.inside.edges.ok.0) in
    let extended = subst (IsExtended before c.self.inside.next.items next) count c.extend-ends.ensures.next in
    let is : c.extend-ends.result ≡ ends_with before (length edges) = c.extend-ends.ensures.ends ∙ ap (ends_with before) count in
    let linked = linked_edge edges c.self.inside.next.items next ends edge before c.self.invariant within at extended in
    subst (λ (es : List Edge). AreLinked es c.push_reserved.new.self.items (set ends edge.to (Some c.extend-ends.result))) (sym c.push_reserved-2.ensures.items)
    (subst (λ (ns : List (Option ℕ)). AreLinked (edges ++ edge ∷ []) ns (set ends edge.to (Some c.extend-ends.result))) (sym c.push_reserved.ensures.items)
    (subst (λ (e : Ends). AreLinked (edges ++ edge ∷ []) (next ++ None ∷ []) (set ends edge.to (Some e))) (sym is) linked))
