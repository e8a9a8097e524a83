use Rattle.std.proofs.Common.{◌≡◌, take}
use Rattle.query_forms.proofs.named.ids_of.Given as goal

abbrev pub invariant-loop-name : goal.invariant-loop-name
invariant-loop-name l = l.ids.items ≡ take l.name-index l.names
