use Rattle.std.proofs.Common.{◌≡◌, ◌++◌, take, drop}
use Rattle.update_tokens.specs.Hash.{padded_with}
use Rattle.update_tokens.proofs.hash.lay_pad.Given as goal

-- the pad lies over the bytes so far
abbrev pub invariant-loop-x : goal.invariant-loop-x
invariant-loop-x l = l.block ≡ padded_with l.pad (take l.x-index l.initial.block) ++ drop l.x-index l.initial.block
