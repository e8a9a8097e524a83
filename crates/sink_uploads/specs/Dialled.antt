-- What one dial did.
use Rattle.std.specs.Prelude.{◌≡◌, ℕ, List, length, Ok, Err}
use Rattle.fault_counts.specs.declared.Failed.{Failed}
use Rattle.outside.specs.Ends.{Ends}
use Rattle.dialers.specs.Dials.{Dials, Connects, with_returned}
use Rattle.sink_uploads.specs.Visits.{Trace, Carried}
use Rattle.sink_uploads.specs.declared.visit.Parting.{Parting}
use Rattle.sink_uploads.specs.declared.visit.Parting.TheVariants.{Fault}

-- No link was opened; or one was, as the first of these, and given back as the second.
pub data Dial (L : Type 0) : Type 0 where
  failed : Dial L
  visited : (opened closed : L) (trace : Trace) → Dial L

-- The dialer gave no link; or it gave one, on which the requests were sent, and took it back.
abbrev pub Dialled : {L : Type 0} → (L → Ends) → List (List ℕ) → Dials L → Dial L → Dials L → Type 0
Dialled ends requests before failed after = (e : Failed) × Connects before (Err e) after
Dialled {L} ends requests before (visited opened closed trace) after =
    (out : Dials L) × Connects before (Ok opened) out × (after ≡ with_returned out closed)
    × Carried requests trace (ends opened) (ends closed)

-- how many requests were answered
abbrev pub answered_by : {L : Type 0} → Dial L → ℕ
answered_by failed = 0
answered_by (visited opened closed trace) = length trace.replies

-- A dial that failed is a fault.
abbrev pub parting_of : {L : Type 0} → Dial L → Parting
parting_of failed = Fault
parting_of (visited opened closed trace) = trace.parting
