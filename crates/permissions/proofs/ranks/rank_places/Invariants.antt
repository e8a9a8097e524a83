use Rattle.std.proofs.Common.{◌≡◌, ℕ, true, take}
use Rattle.std.specs.Prelude.{is_some}
use Rattle.permissions.specs.Graph.{has}
use Rattle.permissions.specs.Ranks.{AreRanked, rank_at}
use Rattle.permissions.proofs.ranks.rank_places.Given as goal

abbrev pub invariant-loop-place : goal.invariant-loop-place
invariant-loop-place l = record {
  ranked : AreRanked l.graph l.ranking.ranks.items l.ranking.places.items l.ranking.rows.items;
  known : (q : ℕ) → has q (take l.place-index l.order) ≡ true → is_some (rank_at l.ranking.ranks.items q) ≡ true;
}
