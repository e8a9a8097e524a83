use Rattle.std.proofs.Common.{◌≡◌, ◌+◌, ℕ, Bool, cond, filter, List, [], ◌∷◌, ◌++◌, get_or, take, sym, ap, ◌∙◌, subst, inl, inr, append_assoc, append-nil}
use Rattle.std.specs.List.{All}
use Rattle.std.specs.List.Sorted.{IsStrictlyIncreasing}
use Rattle.std.proofs.lemmas.Bool.{cond-true, cond-false}
use Rattle.std.proofs.lemmas.List.Elements.{All-get_or, filter_more}
use Rattle.names_realms.specs.declared.states.State.{State}
use Rattle.names_realms.specs.declared.states.State.TheVariants.{Finalizing}
use Rattle.finaliser.specs.Holding.{AreFreed, is_free}
use Rattle.finaliser.specs.Settling.{IsIn}
use Rattle.finaliser.proofs.CandidateLemmas.{freed_more, not_before}
use Rattle.finaliser.proofs.candidates.settle_free.Goals as goal

pub settle_node-requires-clause-node : goal.settle_node-requires-clause-node
settle_node-requires-clause-node c =
    let nodes = c.as_slice-node-items.result.now in
    let i = c.loop-node.node-index in
    let p : ℕ → Bool = is_free c.args.held.now.nodes in
    let rising : IsStrictlyIncreasing nodes = subst IsStrictlyIncreasing (sym c.as_slice-node-items.ensures.nodes) c.requires.rising in
    let all : All (IsIn Finalizing c.args.states.now.items) nodes = subst (All (IsIn Finalizing c.args.states.now.items)) (sym c.as_slice-node-items.ensures.nodes) c.requires.finalizing in
    c.loop-node.invariant.freed.others (get_or nodes i 0) (not_before p nodes i rising c.loop-node-test.true)
    ∙ All-get_or (IsIn Finalizing c.args.states.now.items) nodes i 0 c.loop-node-test.true all

pub loop-node-preserved : goal.loop-node-preserved
loop-node-preserved c =
    let nodes = c.as_slice-node-items.result.now in
    let i = c.loop-node.node-index in
    let x = get_or nodes i 0 in
    let p : ℕ → Bool = is_free c.args.held.now.nodes in
    let more = filter p (take i nodes) in
    let begun = c.args.finals.now.items in
    let old = c.args.states.now.items in
    let cur = c.loop-node.states.items in
    let h = c.loop-node.invariant in
    let rising : IsStrictlyIncreasing nodes = subst IsStrictlyIncreasing (sym c.as_slice-node-items.ensures.nodes) c.requires.rising in
    let all : All (IsIn Finalizing old) nodes = subst (All (IsIn Finalizing old)) (sym c.as_slice-node-items.ensures.nodes) c.requires.finalizing in
    let is : IsIn Finalizing cur x = h.freed.others x (not_before p nodes i rising c.loop-node-test.true)
    ∙ All-get_or (IsIn Finalizing old) nodes i 0 c.loop-node-test.true all in
    let step : filter p (take (i + 1) nodes) ≡ more ++ cond (p x) (x ∷ []) [] = filter_more p nodes i 0 c.loop-node-test.true in
    elim c.settle_node.ensures.settled [
      | inl one ↦
          let goes : filter p (take (i + 1) nodes) ≡ more ++ x ∷ [] = step ∙ ap (λ ys. more ++ ys) (cond-true (p x) (x ∷ []) [] one.0) in
          record {
            finals = one.1 ∙ ap (λ xs. xs ++ x ∷ []) h.finals ∙ append_assoc begun more (x ∷ []) ∙ ap (λ ys. begun ++ ys) (sym goes);
            freed = subst (λ (ms : List ℕ). AreFreed ms old c.settle_node.new.states.items) (sym goes)
                (subst (λ (ss : List State). AreFreed (more ++ x ∷ []) old ss) (sym one.2) (freed_more more old cur x h.freed is));
            capacity = c.settle_node.ensures.capacity ∙ h.capacity;
            states_capacity = c.settle_node.ensures.states_capacity ∙ h.states_capacity;
          }
      | inr none ↦
          let goes : filter p (take (i + 1) nodes) ≡ more = step ∙ ap (λ ys. more ++ ys) (cond-false (p x) (x ∷ []) [] none.0) ∙ append-nil more in
          record {
            finals = none.1 ∙ h.finals ∙ ap (λ ys. begun ++ ys) (sym goes);
            freed = subst (λ (ms : List ℕ). AreFreed ms old c.settle_node.new.states.items) (sym goes)
                (subst (λ (ss : List State). AreFreed more old ss) (sym none.2) h.freed);
            capacity = c.settle_node.ensures.capacity ∙ h.capacity;
            states_capacity = c.settle_node.ensures.states_capacity ∙ h.states_capacity;
          }
    ]
