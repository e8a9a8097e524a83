use Rattle.std.proofs.Common.{length}
use denote.Text.{Utf8}
use denote.Shadow.{shadow}
use Rattle.line_tables.proofs.RowLemmas.{ToldSoFar}
use Rattle.line_tables.proofs.rows.tell_rows.Given as goal

abbrev pub invariant-loop-line : goal.invariant-loop-line
invariant-loop-line g l =
    shadow (Utf8 l.rest) × ToldSoFar (g.T.Teller.tells l.teller) l.fn.text l.rest l.out.items

abbrev pub decreases-loop-line : goal.decreases-loop-line
decreases-loop-line g l = length l.rest
