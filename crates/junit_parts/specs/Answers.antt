-- What a function of the code answers, beside what a definition says.
use Rattle.std.specs.Prelude.{◌≡◌, Option, Some, None, Result, Ok, Err}
use Rattle.junit_parts.specs.declared.faults.Flaw.{Flaw}
use Rattle.junit_parts.specs.declared.faults.Stop.{Stop}
use Rattle.junit_parts.specs.declared.faults.Stop.TheVariants as stops
use Rattle.junit_parts.specs.declared.unread.Unread.{Unread}
use Rattle.junit_parts.specs.declared.unread.Unread.TheVariants.{Memory, Broken}

abbrev pub Fails : {Y : Type 0} → Unread → Option Y → Type 0
Fails Memory read = Unit {0}
Fails Broken read = read ≡ None

-- what was read, seen by `view`, is what the definition reads, and nothing is read where it reads
-- nothing, unless memory ran out
abbrev pub Gives : {X Y : Type 0} → (X → Y) → Result X Unread → Option Y → Type 0
Gives view (Ok x) read = read ≡ Some (view x)
Gives view (Err e) read = Fails e read

-- the same where a definition names a flaw
abbrev pub Stops : {Y : Type 0} → Stop → Result Y Flaw → Type 0
Stops stops.Memory read = Unit {0}
Stops (stops.Flawed f) read = read ≡ Err f

abbrev pub Tells : {X Y : Type 0} → (X → Y) → Result X Stop → Result Y Flaw → Type 0
Tells view (Ok x) read = read ≡ Ok (view x)
Tells view (Err e) read = Stops e read
