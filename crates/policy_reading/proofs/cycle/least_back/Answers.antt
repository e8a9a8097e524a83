use Rattle.std.proofs.Common.{◌≡◌, true, false, length, get_or, sym, subst, ◌∙◌, arith}
use Rattle.std.proofs.lemmas.List.{get_or_default}
use Rattle.policy_reading.specs.CycleSearch.{IsLeastBefore, IsStep}
use Rattle.policy_reading.proofs.CycleLemmas.{least_more, ruled_step}
use Rattle.policy_reading.proofs.cycle.least_back.Goals as goal
use Rattle.policy_reading.proofs.cycle.least_back.Goals.{then-not-index+in_ok-kept, else-not-index}

pub loop-place-preserved : goal.loop-place-preserved
loop-place-preserved c =
    let graph = c.args.graph.now in
    let realms = c.args.realms.now in
    let place = c.loop-place.place in
    let step : IsStep graph realms place c.loop-place.kept c.if-not-index.kept = elim c.if-not-index.branch [
      | then-not-index+in_ok-kept w ↦ subst (IsStep graph realms place c.loop-place.kept) (sym w.kept-is) w.in_ok-kept.ensures
      | else-not-index w ↦
          let out : get_or c.in_ok-out.out.items place false ≡ true =
          get_or_default c.in_ok-out.out.items place false c.index.result.now (omega (arith, c.in_ok-out.ensures.len, c.requires.len, c.loop-place-test.true))
          ∙ sym c.index.ensures ∙ w.if-not-index.false in
          subst (IsStep graph realms place c.loop-place.kept) (sym w.kept-is) (ruled_step graph realms place c.loop-place.kept (c.in_ok-out.ensures.out place out))
    ] in
    least_more graph realms place c.loop-place.kept c.if-not-index.kept step c.loop-place.invariant

pub returns : goal.returns
returns c =
    let end : c.loop-place.place ≡ length c.args.realms.now = omega arith in
    subst (λ n. IsLeastBefore c.args.graph.now c.args.realms.now n c.loop-place.kept) end c.loop-place.invariant
