use Rattle.std.proofs.Common.{length}
use Rattle.result_texts.proofs.CopyLaws.{IsCopied}
use Rattle.result_texts.proofs.values.put_tokens.Given as goal

abbrev pub invariant-loop-token : goal.invariant-loop-token
invariant-loop-token l = IsCopied l.fn.out l.out l.fn.reader l.reader

abbrev pub decreases-loop-token : goal.decreases-loop-token
decreases-loop-token l = length l.reader
