use Rattle.std.proofs.Common.{◌≡◌, true, false, not, refl, ap, inl, inr, arith}
use Rattle.std.proofs.lemmas.Option.{slice_get_within}
use Rattle.std.proofs.lemmas.Bool.{cases_Bool}
use Rattle.names_realms.specs.declared.states.State.TheVariants.{Finalizing}
use Rattle.inclusion_graph.specs.Edges.{has}
use Rattle.inclusion_graph.proofs.ListLemmas.{held_from}
use Rattle.finaliser.proofs.SettleLemmas.{unfinal_some}
use Rattle.finaliser.proofs.candidates.settle_node.Goals as goal

pub push_reserved-requires : goal.push_reserved-requires
push_reserved-requires c = omega (arith, c.requires.room, unfinal_some c.args.states.now.items c.args.node c.requires.node)

pub index_mut-requires : goal.index_mut-requires
index_mut-requires c = omega (arith, c.args.states.now.ok.0, slice_get_within c.args.states.now.items c.args.node Finalizing c.requires.node)

pub returns-then-not-has-clause-settled : goal.returns-then-not-has-clause-settled
returns-then-not-has-clause-settled c =
    let nodes = c.args.held.now.nodes in
    let free : not (has nodes c.args.node) ≡ true = elim (cases_Bool (has nodes c.args.node)) [
      | inl yes_ ↦ let no : false ≡ true = c.if-not-has.ensures.1 (held_from nodes c.args.node yes_) in cc
      | inr no_ ↦ ap not no_
    ] in
    inl (free, c.push_reserved.ensures.items, refl)
