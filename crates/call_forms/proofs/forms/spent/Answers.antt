use Rattle.std.proofs.Common.{sym}
use Rattle.call_forms.proofs.StandinLaws.{spent_closing, spent_open}
use Rattle.call_forms.proofs.forms.spent.Goals as goal

pub returns-then-close : goal.returns-then-close
returns-then-close c = rw c.if-close.true (sym spent_closing)

pub returns-else-close : goal.returns-else-close
returns-else-close c = rw c.if-close.false (sym spent_open)
