use Rattle.std.proofs.Common.{take, map}
use Rattle.page_tokens.proofs.KeyLemmas.{HoldsSoFar}
use Rattle.page_tokens.proofs.keys.contents_of.Given as goal

abbrev pub invariant-loop-part : goal.invariant-loop-part
invariant-loop-part l = HoldsSoFar (take l.part-index l.parts) (map (λ c. c.now) l.held.items) l.rest l.key
