use Rattle.std.proofs.Common.{take}
use Rattle.std.specs.List.{All}
use Rattle.finaliser.specs.Holding.{Holds}
use Rattle.finaliser.proofs.candidates.is_held_up.Given as goal

abbrev pub invariant-loop-place : goal.invariant-loop-place
invariant-loop-place l = All (λ target. ¬ Holds l.states l.found.nodes target) (take l.place l.targets)
