use Rattle.std.proofs.Common.{drop}
use Rattle.permissions.specs.Ranks.{IsOneBoundOn}
use Rattle.permissions.specs.Rights.{binds_user}
use Rattle.permissions.proofs.ranked.Ranked.is_one_bound.Given as goal

-- if one of them is bound, one of those to come is
abbrev pub invariant-loop-rank : goal.invariant-loop-rank
invariant-loop-rank l =
    IsOneBoundOn l.self.rows.items (binds_user l.self l.ask.user l.ask.permission) l.ranks
    → IsOneBoundOn l.self.rows.items (binds_user l.self l.ask.user l.ask.permission) (drop l.rank-index l.ranks)
