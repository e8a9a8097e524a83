use Rattle.std.proofs.Common.{sym}
use Rattle.call_forms.proofs.StandinLaws.{want_of_memory_closing, want_of_memory_open}
use Rattle.call_forms.proofs.forms.want_of_memory.Goals as goal

pub returns-then-close : goal.returns-then-close
returns-then-close c = rw c.if-close.true (sym want_of_memory_closing)

pub returns-else-close : goal.returns-else-close
returns-else-close c = rw c.if-close.false (sym want_of_memory_open)
