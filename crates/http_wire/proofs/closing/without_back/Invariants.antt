use Rattle.std.proofs.Common.{◌≡◌, length}
use Rattle.std.specs.Prelude.{reverse}
use Rattle.httparse.specs.Grammar.{skip_ows}
use Rattle.http_wire.proofs.closing.without_back.Given as goal

abbrev pub invariant-blanks : goal.invariant-blanks
invariant-blanks l = skip_ows (reverse l.text) ≡ skip_ows (reverse l.left)

abbrev pub decreases-blanks : goal.decreases-blanks
decreases-blanks l = length l.left
