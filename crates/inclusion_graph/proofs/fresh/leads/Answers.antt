use Rattle.std.proofs.Common.{◌≡◌, List, length, get_or, refl, ap, subst, arith}
use Rattle.std.proofs.lemmas.Option.{slice_get_within}
use Rattle.inclusion_graph.specs.declared.edge.Edge.{Edge}
use Rattle.inclusion_graph.specs.Links.{IsSought}
use Rattle.inclusion_graph.proofs.FreshLemmas.{sought_at, sought_found, sought_more, sought_start}
use Rattle.inclusion_graph.proofs.fresh.leads.Goals as goal

pub sources-init : goal.sources-init
sources-init c = sought_start c.args.edges.now.edges c.args.from c.args.to c.first_to-next.result c.first_to-next.ensures

pub bounds-list-place : goal.bounds-list-place
bounds-list-place c =
    let edges = c.args.edges.now.edges in
    let place = c.in-Some.place in
    let d : Edge = record { from = 0; to = 0 } in
    let sought = subst (IsSought edges c.args.from c.args.to) c.in-Some.is c.sources.invariant in
    let at = sought_at edges c.args.from c.args.to place d sought in
    let edge : Edge = record { from = (get_or edges place d).from; to = c.args.to } in
    omega (arith, slice_get_within edges place edge at, ap (λ (es : List Edge). length es) c.as_slice-list.ensures)

pub returns-then-list-place : goal.returns-then-list-place
returns-then-list-place c =
    let edges = c.args.edges.now.edges in
    let place = c.in-Some.place in
    let d : Edge = record { from = 0; to = 0 } in
    let sought = subst (IsSought edges c.args.from c.args.to) c.in-Some.is c.sources.invariant in
    let same = subst (λ (es : List Edge). (get_or es place d).from ≡ c.args.from) c.as_slice-list.ensures c.if-list-place.true in
    (λ _. sought_found edges c.args.from c.args.to place d sought same, λ _. refl)

pub next_to-next-requires : goal.next_to-next-requires
next_to-next-requires c =
    let edges = c.args.edges.now.edges in
    let place = c.in-Some.place in
    let d : Edge = record { from = 0; to = 0 } in
    let sought = subst (IsSought edges c.args.from c.args.to) c.in-Some.is c.sources.invariant in
    let edge : Edge = record { from = (get_or edges place d).from; to = c.args.to } in
    slice_get_within edges place edge (sought_at edges c.args.from c.args.to place d sought)

pub sources-preserved : goal.sources-preserved
sources-preserved c =
    let edges = c.args.edges.now.edges in
    let place = c.in-Some.place in
    let d : Edge = record { from = 0; to = 0 } in
    let sought = subst (IsSought edges c.args.from c.args.to) c.in-Some.is c.sources.invariant in
    let other = subst (λ (es : List Edge). (get_or es place d).from ≡ c.args.from → ⊥) c.as_slice-list.ensures c.if-list-place.false in
    sought_more edges c.args.from c.args.to place d c.next_to-next.result sought other c.next_to-next.ensures
