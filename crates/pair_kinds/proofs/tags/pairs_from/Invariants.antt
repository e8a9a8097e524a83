use Rattle.std.proofs.Common.{◌≡◌}
use Rattle.pair_kinds.proofs.tags.pairs_from.Given as goal

abbrev pub invariant-loop-tag : goal.invariant-loop-tag
invariant-loop-tag l = l.pairs.items ≡ l.yielded
