-- A disk that tells nothing.
use Rattle.std.specs.Prelude.{◌≡◌, Option, None, Some}
use Rattle.std.proofs.Common.{subst}
use Rattle.disks.specs.Parts.{MayLeave, as_read}
use Rattle.disks.specs.Moments.{Told}

IsNothing : Option Told → Type 0
IsNothing None = Unit {0}
IsNothing (Some t) = ⊥

-- There is no state that it tells.
pub nothing_told : (t : Told) → None ≡ Some t → MayLeave t.now (as_read t.now)
unfolding IsNothing
nothing_told t is = absurd (subst IsNothing is tt)
