use Rattle.std.proofs.Common.{◌≡◌, ◌<◌, ◌↔◌, true, false, length, Contains, sym, subst}
use Rattle.std.proofs.lemmas.List.{get_or_read}
use Rattle.finaliser.specs.Holding.{NodeSetState}
use Rattle.finaliser.proofs.NodeLemmas.{has_says}
use Rattle.finaliser.proofs.node_set.NodeSet.has.Goals as goal

pub returns : goal.returns
returns c =
    let marks = c.self.inside.marks.items in
    let within : c.args.node < length marks = subst (λ (s : NodeSetState). c.args.node < s.below) (sym c.self.view_is) c.requires in
    let read = get_or_read marks c.args.node c.index.result.now within c.index.ensures false in
    subst (λ (s : NodeSetState). (c.index.result.now ≡ true) ↔ Contains s.nodes c.args.node) c.self.view_is
    (has_says marks c.self.inside.nodes.items c.args.node c.index.result.now c.self.invariant.says within read)
