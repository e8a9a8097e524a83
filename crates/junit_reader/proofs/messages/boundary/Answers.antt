use Rattle.std.proofs.Common.{sym, ◌∙◌, arith}
use Rattle.junit_reader.proofs.MessageLemmas.{boundary_inside, boundary_here, is_positive}
use Rattle.junit_reader.proofs.messages.boundary.Goals as goal

pub loop-at-preserved : goal.loop-at-preserved
loop-at-preserved c =
    let at = c.loop-at in
    record {
      within = omega arith;
      same = boundary_inside at.at c.args.bytes.now (sym c.is_inside.ensures ∙ c.loop-at-test.true) ∙ at.invariant.same;
    }

pub returns-clause-value : goal.returns-clause-value
returns-clause-value c = sym (boundary_here c.loop-at.at c.args.bytes.now (sym c.is_inside.ensures ∙ c.loop-at-test.false)) ∙ c.loop-at.invariant.same

pub loop-at-smaller : goal.loop-at-smaller
loop-at-smaller c = omega (arith, is_positive c.loop-at.at _ (sym c.is_inside.ensures ∙ c.loop-at-test.true))

pub overflow_sub-at : goal.overflow_sub-at
overflow_sub-at c = omega (arith, is_positive c.loop-at.at _ (sym c.is_inside.ensures ∙ c.loop-at-test.true))
