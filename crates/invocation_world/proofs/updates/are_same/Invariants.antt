use Rattle.std.proofs.Common.{◌≡◌, length, drop}
use Rattle.std.specs.Cmp.Lexicographic.{pointwise}
use Rattle.invocation_world.specs.Changes.{is_same_pair}
use Rattle.invocation_world.proofs.updates.are_same.Given as goal

abbrev pub invariant-loop-i : goal.invariant-loop-i
invariant-loop-i l =
    (length l.a ≡ length l.b)
    × (pointwise is_same_pair l.a l.b ≡ pointwise is_same_pair (drop l.i l.a) (drop l.i l.b))
