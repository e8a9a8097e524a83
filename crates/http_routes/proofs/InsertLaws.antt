-- Why a route isn't put into an empty router.
use Rattle.std.proofs.Common.{◌≡◌, ℕ, List, [], Some, None, refl}
use Rattle.matchit.specs.Router.{Refused}
use Rattle.matchit.specs.declared.error.InsertError.{InsertError}
use Rattle.matchit.specs.declared.error.InsertError.TheVariants.{Conflict, InvalidParam, InvalidParamSegment, InvalidCatchAll, OutOfMemory}

pub only_memory : (pattern : List ℕ) (fault : InsertError) → Refused {T = Unit {0}} pattern [] fault → fault ≡ OutOfMemory
only_memory pattern (Conflict with) x = absurd (let e : ◌≡◌ None (Some x.0) = x.1 in cc)
only_memory pattern OutOfMemory x = refl
only_memory pattern InvalidParamSegment x = absurd x
only_memory pattern InvalidParam x = absurd x
only_memory pattern InvalidCatchAll x = absurd x
