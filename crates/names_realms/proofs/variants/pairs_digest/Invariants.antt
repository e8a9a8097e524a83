use Rattle.std.proofs.Common.{take}
use Rattle.std.specs.List.{flat_map}
use Rattle.sha2.specs.Hashers.{Holds256}
use Rattle.names_realms.specs.Variants.{pair_bytes}
use Rattle.names_realms.proofs.variants.pairs_digest.Given as goal

abbrev pub invariant-loop-i : goal.invariant-loop-i
invariant-loop-i l = Holds256 l.hasher (flat_map pair_bytes (take l.i l.pairs))
