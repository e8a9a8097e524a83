use Rattle.std.proofs.Common.{◌≤◌, take}
use Rattle.invocation_world.specs.Settling.{AreEnded}
use Rattle.invocation_world.proofs.turns.end_rows.Given as goal

abbrev pub invariant-loop-place : goal.invariant-loop-place
invariant-loop-place l =
    AreEnded l.moment (take l.place-index l.places) l.fn.table.rows l.table.rows × (l.fn.table.spare ≤ l.table.spare)
