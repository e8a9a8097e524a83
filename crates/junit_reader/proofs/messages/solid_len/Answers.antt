use Rattle.std.proofs.Common.{sym, ap, ◌∙◌, arith}
use Rattle.std.proofs.Math.Seq.{take-length}
use Rattle.junit_parts.specs.Messages.{solid_len}
use Rattle.junit_reader.proofs.MessageLemmas.{solid_before, solid_here, is_positive}
use Rattle.junit_reader.proofs.messages.solid_len.Goals as goal

pub loop-at-init : goal.loop-at-init
loop-at-init c = record { within = omega arith; same = ap solid_len (take-length c.args.bytes.now) }

pub loop-at-preserved : goal.loop-at-preserved
loop-at-preserved c =
    let at = c.loop-at in
    record {
      within = omega arith;
      same = solid_before at.at c.args.bytes.now at.invariant.within (sym c.ends_white.ensures ∙ c.loop-at-test.true) ∙ at.invariant.same;
    }

pub returns-clause-value : goal.returns-clause-value
returns-clause-value c = sym (solid_here c.loop-at.at c.args.bytes.now c.loop-at.invariant.within (sym c.ends_white.ensures ∙ c.loop-at-test.false)) ∙ c.loop-at.invariant.same

pub loop-at-smaller : goal.loop-at-smaller
loop-at-smaller c = omega (arith, is_positive c.loop-at.at _ (sym c.ends_white.ensures ∙ c.loop-at-test.true))

pub overflow_sub-at : goal.overflow_sub-at
overflow_sub-at c = omega (arith, is_positive c.loop-at.at _ (sym c.ends_white.ensures ∙ c.loop-at-test.true))
