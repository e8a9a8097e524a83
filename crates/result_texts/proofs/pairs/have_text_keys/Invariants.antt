use Rattle.std.proofs.Common.{◌≡◌, true, take}
use Rattle.result_texts.specs.Pairs.{have_text_keys}
use Rattle.result_texts.proofs.pairs.have_text_keys.Given as goal

abbrev pub invariant-loop-pair : goal.invariant-loop-pair
invariant-loop-pair l = have_text_keys (take l.pair-index l.pairs) ≡ true
