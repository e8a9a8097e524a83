use Rattle.std.proofs.Common.{◌≡◌, drop}
use Rattle.policy_checks.specs.Spots.{spots_of, with_spots}
use Rattle.policy_checks.proofs.walk.look_at_rows.Given as goal

-- what is noted so far, and what the rows to come will add, is what all rows add
abbrev pub invariant-loop-place : goal.invariant-loop-place
invariant-loop-place g l = record {
  path : l.notes.path ≡ l.initial.notes.path;
  least : with_spots l.checker.book.now l.checker.check l.notes.least (spots_of g.T.Texts.spots l.initial.notes.path l.place (drop l.place l.rows))
      ≡ with_spots l.checker.book.now l.checker.check l.initial.notes.least (spots_of g.T.Texts.spots l.initial.notes.path 0 l.rows);
}
