use Rattle.std.proofs.Common.{◌≡◌, ℕ, take, Contains, true, get_or, sym, ◌∙◌, subst}
use Rattle.std.specs.List.{All}
use Rattle.std.proofs.lemmas.List.{take_all}
use Rattle.std.proofs.lemmas.List.Elements.{All-contains, All-more, All-weaker}
use Rattle.finaliser.specs.Holding.{IsHeldUp}
use Rattle.finaliser.proofs.CandidateLemmas.{grown_more, grown_stays, grown_weaker}
use Rattle.finaliser.proofs.candidates.add_held_up.Goals as goal

pub loop-node-preserved : goal.loop-node-preserved
loop-node-preserved c =
    let P : ℕ → Type 0 = IsHeldUp c.args.graph.now.edges c.args.states.now c.args.found.now.nodes in
    let old = c.loop-node.held in
    let new = c.add_if.new.set in
    let nodes = c.as_slice-node-items.result.now in
    let i = c.loop-node.node-index in
    let node = get_or nodes i 0 in
    let says = c.is_held_up-is_held.ensures in
    let grown = grown_weaker (λ n. (c.is_held_up-is_held.result ≡ true) × (n ≡ node)) P old new (λ n is. subst P (sym is.1) (says.0 is.0)) c.add_if.ensures.grown in
    record {
      grown = grown_more P P (λ n up. up) c.args.held.now old new c.loop-node.invariant.grown grown;
      all = All-more (λ n. P n → Contains new.nodes n) nodes i 0 c.loop-node-test.true
          (All-weaker (λ n. P n → Contains old.nodes n) (λ n. P n → Contains new.nodes n) (λ n h up. grown_stays P old new grown n (h up)) (take i nodes) c.loop-node.invariant.all)
          (λ up. c.add_if.ensures.there (says.1 up));
    }

pub returns-clause-there : goal.returns-clause-there
returns-clause-there c =
    let P : ℕ → Type 0 = IsHeldUp c.args.graph.now.edges c.args.states.now c.args.found.now.nodes in
    let Q : ℕ → Type 0 = λ n. P n → Contains c.loop-node.held.nodes n in
    let nodes = c.as_slice-node-items.result.now in
    let all = subst (All Q) (take_all c.loop-node.node-index nodes c.loop-node-test.false ∙ c.as_slice-node-items.ensures.nodes) c.loop-node.invariant.all in
    λ node held. All-contains Q c.args.found.now.nodes node all held
