use Rattle.std.proofs.Common.{◌≡◌, ℕ, List, ◌++◌, map, take}
use Rattle.serde_json.specs.Data.{Data}
use Rattle.serde_json.specs.View.{view}
use Rattle.workload_turns.specs.Tallies.{tally_of}
use Rattle.workload_turns.proofs.tally.Tally.count_verdicts.Given as goal

abbrev pub invariant-loop-verdict : goal.invariant-loop-verdict
invariant-loop-verdict l =
    (requests : ℕ) (before : List Data) → l.fn.self ≡ tally_of requests before
    → l.self ≡ tally_of requests (before ++ map view (take l.verdict-index l.verdicts))
