use Rattle.std.proofs.Common.{◌≡◌, ◌∷◌, map, length}
use Rattle.outside.specs.Pieces.{without_empty}
use Rattle.outside.proofs.memory.pieces.pass_empty.Given as goal

abbrev pub invariant-loop-others : goal.invariant-loop-others
invariant-loop-others l =
    without_empty (l.current ∷ map (λ v. v.items) l.others.items)
    ≡ without_empty (l.initial.current ∷ map (λ v. v.items) l.initial.others.items)

abbrev pub decreases-loop-others : goal.decreases-loop-others
decreases-loop-others l = length l.others.items
