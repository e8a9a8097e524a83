use Rattle.std.proofs.Common.{◌≡◌, ◌++◌, take, drop}
use Rattle.test_results.specs.Exonerations.{given}
use Rattle.test_results.proofs.exoneration_rows.give.Given as goal

-- the rows so far have their holder and their places
abbrev pub invariant-loop-at : goal.invariant-loop-at
invariant-loop-at l = l.rows ≡ given l.holder l.before (take l.at l.initial.rows) ++ drop l.at l.initial.rows
