use Rattle.std.proofs.Common.{◌≡◌}
use Rattle.text_kinds.proofs.names.ids_from.Given as goal

abbrev pub invariant-loop-name : goal.invariant-loop-name
invariant-loop-name l = l.ids.items ≡ l.yielded
