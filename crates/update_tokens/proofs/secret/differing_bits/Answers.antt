use Rattle.std.proofs.Common.{get_or, below_more, ap, arith}
use Rattle.std.proofs.lemmas.Grind.{same_number_lists}
use Rattle.update_tokens.proofs.BitLemmas.{or_zero, xor_zero, no_bits}
use Rattle.update_tokens.proofs.secret.differing_bits.Goals as goal

pub loop-i-preserved : goal.loop-i-preserved
loop-i-preserved c = record {
  same = λ z.
      let before = or_zero _ _ z in
      below_more _ _ (c.loop-i.invariant.same before.0) (xor_zero _ _ before.1);
  none = λ e. no_bits _ _ _ (c.loop-i.invariant.none e) (ap (λ xs. get_or xs c.loop-i.i 0) e);
}

pub returns : goal.returns
returns c = (λ z. same_number_lists _ _ c.requires (λ k below. c.loop-i.invariant.same z k (omega arith)), c.loop-i.invariant.none)
