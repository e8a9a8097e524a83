use Rattle.std.proofs.Common.{◌<◌, ◌++◌, ℕ, drop}
use Rattle.sink_replies.specs.Ends.{IsHeadAlone}
use Rattle.sink_replies.proofs.ends.ends_with_a_rest.Given as goal

abbrev pub invariant-loop-start : goal.invariant-loop-start
invariant-loop-start l = (k : ℕ) → k < l.start → ¬ (IsHeadAlone (l.bytes ++ drop k l.text))
