use Rattle.std.proofs.Common.{◌≡◌, drop}
use Rattle.policy_checks.specs.Spots.{text_spots, with_spots}
use Rattle.policy_checks.proofs.walk.look_at_items.Given as goal

-- what is noted so far, and what the texts to come will add, is what all texts add
abbrev pub invariant-loop-place : goal.invariant-loop-place
invariant-loop-place l = record {
  path : l.notes.path ≡ l.initial.notes.path;
  least : with_spots l.checker.book.now l.checker.check l.notes.least (text_spots l.kind l.initial.notes.path l.place (drop l.place l.texts))
      ≡ with_spots l.checker.book.now l.checker.check l.initial.notes.least (text_spots l.kind l.initial.notes.path 0 l.texts);
}
