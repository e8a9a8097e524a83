use Rattle.std.proofs.Common.{◌≡◌, take}
use Rattle.verdict_lists.specs.Groups.{results_in}
use Rattle.verdict_lists.proofs.groups.results_in.Given as goal

abbrev pub invariant-loop-entry : goal.invariant-loop-entry
invariant-loop-entry l = l.places.items ≡ results_in (take l.entry-index l.entries)
