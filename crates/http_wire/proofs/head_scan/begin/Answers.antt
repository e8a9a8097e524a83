use Rattle.std.proofs.Common.{arith, refl}
use Rattle.http_wire.proofs.head_scan.begin.Goals as goal

pub returns : goal.returns
returns c = record { scanned = refl; few = omega arith; goes = λ rest. refl }
