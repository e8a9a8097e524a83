use Rattle.std.proofs.Common.{◌≡◌, true, false, refl, take, get_or, sym, subst, arith}
use Rattle.std.specs.List.{All}
use Rattle.std.proofs.lemmas.List.{take_all}
use Rattle.std.proofs.lemmas.List.Elements.{All-more, All-weaker}
use Rattle.names_realms.specs.declared.states.State.TheVariants.{Finalized}
use Rattle.inclusion_graph.specs.Edges.{targets_of}
use Rattle.finaliser.specs.declared.watches.Watch.{Watch}
use Rattle.finaliser.specs.Holding.{Holds}
use Rattle.finaliser.specs.Settling.{IsIn}
use Rattle.finaliser.proofs.CandidateLemmas.{final_holds_none, held_up_by, not_held_up}
use Rattle.finaliser.proofs.WatchLemmas.{watch_at}
use Rattle.finaliser.proofs.candidates.is_held_up.Goals as goal

pub returns-then-holds : goal.returns-then-holds
returns-then-holds c = (
  λ yes_. held_up_by c.args.graph.now.edges c.args.states.now c.args.found.now.nodes c.targets-targets.result.now c.args.node c.loop-place.place
      c.targets-targets.ensures.targets (omega (arith, c.loop-place-test.true)) (c.if-holds.ensures.0 refl),
  λ up. refl,
)

pub loop-place-init : goal.loop-place-init
loop-place-init c =
    let states = c.args.states.now in
    let found = c.args.found.now.nodes in
    let d : Watch = record { passed = 0; aim = 0 } in
    let w : Watch = get_or c.args.watches.now c.args.node d in
    let is = watch_at c.args.graph.now.edges states c.args.watches.now c.args.node d c.requires.watched c.requires.node in
    subst (λ xs. All (λ t. ¬ Holds states found t) (take w.passed xs)) (sym c.targets-targets.ensures.targets)
    (All-weaker (IsIn Finalized states) (λ t. ¬ Holds states found t) (λ n final. final_holds_none states found n final)
    (take w.passed (targets_of c.args.graph.now.edges c.args.node)) is.passed)

pub loop-place-preserved : goal.loop-place-preserved
loop-place-preserved c =
    All-more (λ t. ¬ Holds c.args.states.now c.args.found.now.nodes t) c.targets-targets.result.now c.loop-place.place 0
    (omega (arith, c.loop-place-test.true)) c.loop-place.invariant (λ holds. let no : false ≡ true = c.if-holds.ensures.1 holds in cc)

pub returns : goal.returns
returns c =
    let targets = c.targets-targets.result.now in
    let none = subst (All (λ t. ¬ Holds c.args.states.now c.args.found.now.nodes t)) (take_all c.loop-place.place targets c.loop-place-test.false) c.loop-place.invariant in (
      λ no. let never : false ≡ true = no in cc,
      λ up. absurd (not_held_up c.args.graph.now.edges c.args.states.now c.args.found.now.nodes targets c.args.node c.targets-targets.ensures.targets none up),
    )
