use Rattle.std.proofs.Common.{◌∷◌, drop}
use Rattle.names_realms.specs.Variants.{IsAscending}
use Rattle.names_realms.proofs.variants.are_rising.Given as goal

abbrev pub invariant-loop-pair : goal.invariant-loop-pair
invariant-loop-pair l = IsAscending (l.last ∷ drop l.pair-index l.rest) → IsAscending l.pairs
