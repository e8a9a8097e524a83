use Rattle.std.proofs.Common.{◌≡◌, ◌++◌, map, take}
use Rattle.verdict_lists.specs.declared.entries.Entry.TheVariants.{Result}
use Rattle.verdict_lists.proofs.entries.add_results.Given as goal

abbrev pub invariant-loop-place : goal.invariant-loop-place
invariant-loop-place l = l.entries.items ≡ l.fn.entries.items ++ map Result (take l.place-index l.places)
