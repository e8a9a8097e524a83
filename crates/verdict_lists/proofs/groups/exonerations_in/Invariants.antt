use Rattle.std.proofs.Common.{◌≡◌, take}
use Rattle.verdict_lists.specs.Groups.{exonerations_in}
use Rattle.verdict_lists.proofs.groups.exonerations_in.Given as goal

abbrev pub invariant-loop-entry : goal.invariant-loop-entry
invariant-loop-entry l = l.places.items ≡ exonerations_in (take l.entry-index l.entries)
