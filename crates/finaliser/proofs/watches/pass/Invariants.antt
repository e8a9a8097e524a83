use Rattle.std.proofs.Common.{◌≤◌, ◌-◌, length, take}
use Rattle.std.specs.List.{All}
use Rattle.names_realms.specs.declared.states.State.TheVariants.{Finalized}
use Rattle.finaliser.specs.Settling.{IsIn}
use Rattle.finaliser.proofs.watches.pass.Given as goal

abbrev pub invariant-passed : goal.invariant-passed
invariant-passed l = record {
  few : l.place ≤ length l.targets;
  passed : All (IsIn Finalized l.states) (take l.place l.targets);
}

abbrev pub decreases-passed : goal.decreases-passed
decreases-passed l = length l.targets - l.place
