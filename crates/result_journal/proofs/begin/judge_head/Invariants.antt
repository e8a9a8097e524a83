use Rattle.std.proofs.Common.{ℕ, ◌<◌, get_or}
use Rattle.result_journal.specs.Grammar.{IsOfHead}
use Rattle.result_journal.proofs.begin.judge_head.Given as goal

abbrev pub invariant-loop-at : goal.invariant-loop-at
invariant-loop-at l = (k : ℕ) → k < l.at → IsOfHead k (get_or l.bytes k 0)
