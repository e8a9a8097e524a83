use Rattle.std.proofs.Common.{◌≡◌, map, take}
use Rattle.std.specs.Prelude.{unwrap_or}
use Rattle.permissions.specs.Ranks.{rank_at}
use Rattle.permissions.proofs.ranks.ranks_of.Given as goal

abbrev pub invariant-loop-place : goal.invariant-loop-place
invariant-loop-place l = l.row.items ≡ map (λ q. unwrap_or (rank_at l.ranks q) 0) (take l.place-index l.places)
