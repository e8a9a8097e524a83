use Rattle.std.proofs.Common.{◌≡◌, take}
use Rattle.std.specs.List.{list_all}
use Rattle.verdict_lists.specs.Statuses.{is_expected, is_skipped, is_unexpected}
use Rattle.verdict_lists.specs.World.{results_at}
use Rattle.verdict_lists.proofs.status.tally_of.Given as goal

abbrev pub invariant-loop-place : goal.invariant-loop-place
invariant-loop-place l = record {
  unexpected : l.tally.unexpected ≡ list_all is_unexpected (results_at l.rows (take l.place-index l.places));
  skipped : l.tally.skipped ≡ list_all is_skipped (results_at l.rows (take l.place-index l.places));
  expected : l.tally.expected ≡ list_all is_expected (results_at l.rows (take l.place-index l.places));
}
