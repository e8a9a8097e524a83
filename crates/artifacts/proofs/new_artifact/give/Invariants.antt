use Rattle.std.proofs.Common.{◌≡◌, ◌++◌, take, drop}
use Rattle.artifacts.specs.Batches.{given}
use Rattle.artifacts.proofs.new_artifact.give.Given as goal

-- the rows so far have their holder
abbrev pub invariant-loop-at : goal.invariant-loop-at
invariant-loop-at l = l.rows ≡ given l.holder (take l.at l.initial.rows) ++ drop l.at l.initial.rows
