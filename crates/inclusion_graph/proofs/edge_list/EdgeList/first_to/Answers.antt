use Rattle.std.proofs.Common.{◌<◌, Some, None, length, refl, sym, subst}
use Rattle.std.proofs.lemmas.Option.{slice_get_read}
use Rattle.inclusion_graph.specs.Edges.{GraphState, IsFirstTo}
use Rattle.inclusion_graph.specs.Links.{HasEnds}
use Rattle.inclusion_graph.proofs.edge_list.EdgeList.first_to.Goals as goal

pub returns-in-Some : goal.returns-in-Some
returns-in-Some c =
    let lists = c.self.inside.ends.items in
    let within : c.args.node < length lists = subst (λ (g : GraphState). c.args.node < g.nodes) (sym c.self.view_is) c.requires in
    let at = slice_get_read lists (length lists) c.args.node c.index.result.now refl within c.index.ensures in
    let has = subst (HasEnds c.self.inside.edges.items c.args.node) c.in-Some.is (c.self.invariant.ends_are c.args.node c.index.result.now at) in
    subst (λ (g : GraphState). IsFirstTo g.edges c.args.node 0 (Some c.in-Some.ends.first)) c.self.view_is has.0

pub returns-in-None : goal.returns-in-None
returns-in-None c =
    let lists = c.self.inside.ends.items in
    let within : c.args.node < length lists = subst (λ (g : GraphState). c.args.node < g.nodes) (sym c.self.view_is) c.requires in
    let at = slice_get_read lists (length lists) c.args.node c.index.result.now refl within c.index.ensures in
    let has = subst (HasEnds c.self.inside.edges.items c.args.node) c.in-None.is (c.self.invariant.ends_are c.args.node c.index.result.now at) in
    subst (λ (g : GraphState). IsFirstTo g.edges c.args.node 0 None) c.self.view_is has
