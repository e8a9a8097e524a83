use Rattle.std.proofs.Common.{◌≡◌, map, take}
use Rattle.request_effects.proofs.showing.artifacts_reply.Given as goal

abbrev pub invariant-loop-row : goal.invariant-loop-row
invariant-loop-row l = map (λ row. row.now) l.shown.items ≡ take l.row-index l.rows
