use Rattle.std.proofs.Common.{map}
use Rattle.page_tokens.proofs.KeyLemmas.{Appends}
use Rattle.page_tokens.proofs.keys.append_parts.Given as goal

abbrev pub invariant-loop-i : goal.invariant-loop-i
invariant-loop-i l = Appends l.parts (map (λ c. c.now) l.held) l.initial.key.items l.i l.key.items
