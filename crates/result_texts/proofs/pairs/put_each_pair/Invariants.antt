use Rattle.std.proofs.Common.{take}
use Rattle.std.specs.List.{flat_map}
use Rattle.result_texts.specs.Pairs.{pair_tokens}
use Rattle.token_texts.specs.Tokens.{IsAdded}
use Rattle.result_texts.proofs.pairs.put_each_pair.Given as goal

abbrev pub invariant-loop-pair : goal.invariant-loop-pair
invariant-loop-pair l = IsAdded l.fn.out l.out (flat_map pair_tokens (take l.pair-index l.pairs))
