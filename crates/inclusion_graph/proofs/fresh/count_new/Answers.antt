use Rattle.std.proofs.Common.{◌≡◌, ◌<◌, ◌+◌, ◌++◌, ◌∷◌, [], ℕ, Bool, List, length, drop, get_or, refl, sym, ap, ◌∙◌, subst, inl, inr, arith}
use Rattle.std.proofs.lemmas.List.{drop_more}
use Rattle.inclusion_graph.specs.Edges.{fresh}
use Rattle.inclusion_graph.specs.Searches.{HasMarks}
use Rattle.inclusion_graph.proofs.ListLemmas.{fresh_held, fresh_new, marks_more}
use Rattle.inclusion_graph.proofs.fresh.count_new.Goals as goal

pub loop-target-init : goal.loop-target-init
loop-target-init c = record {
  all = c.args.held.now;
  says = (refl, λ n within. c.mark.ensures.says.1 n (omega (arith, c.mark.ensures.says.0)));
  count = omega arith;
  few = omega arith;
  capacity = refl;
}

pub loop-target-preserved : goal.loop-target-preserved
loop-target-preserved c =
    let targets = c.args.targets.now in
    let i = c.loop-target.target-index in
    let n = get_or targets i 0 in
    let rest = drop (i + 1) targets in
    let h = c.loop-target.invariant in
    let all = h.all in
    let marks = c.loop-target.marks.items in
    let below = length c.mark.new.marks.items in
    let within : i < length targets = omega arith in
    let low : n < below = omega (arith, c.requires.targets i 0 within, c.mark.ensures.says.0) in
    let left : drop i targets ≡ n ∷ rest = drop_more targets i 0 within in
    let count : c.loop-target.count + length (fresh all (n ∷ rest)) ≡ length (fresh c.args.held.now targets) =
    subst (λ ts. c.loop-target.count + length (fresh all ts) ≡ length (fresh c.args.held.now targets)) left h.count in
    elim c.mark_one-count.ensures.marks [
      | inl one ↦ record {
        all = all ++ n ∷ [];
        says = subst (λ (ms : List Bool). HasMarks ms below (all ++ n ∷ [])) (sym one.2) (marks_more marks below all n low h.says);
        count = omega (arith, count, one.0, ap (λ (ts : List ℕ). length ts) (fresh_new all rest n (sym (h.says.1 n low) ∙ one.1)));
        few = omega (arith, one.0, h.few);
        capacity = c.mark_one-count.ensures.capacity ∙ h.capacity;
      }
      | inr none ↦ record {
        all = all;
        says = subst (λ (ms : List Bool). HasMarks ms below all) (sym none.2) h.says;
        count = omega (arith, count, none.0, ap (λ (ts : List ℕ). length ts) (fresh_held all rest n (sym (h.says.1 n low) ∙ none.1)));
        few = omega (arith, none.0, h.few);
        capacity = c.mark_one-count.ensures.capacity ∙ h.capacity;
      }
    ]
