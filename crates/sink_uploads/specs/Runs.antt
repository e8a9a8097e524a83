-- An upload of requests: its dials one after the other, and how it ends.
use Rattle.std.specs.Prelude.{◌≡◌, ℕ, zero, suc, ◌+◌, ◌<◌, List, [], ◌∷◌, length, drop, Result, Ok, Err}
use Rattle.outside.specs.Ends.{Ends}
use Rattle.dialers.specs.Dials.{Dials}
use Rattle.sink_uploads.specs.Dialled.{Dial, Dialled, answered_by, parting_of}
use Rattle.sink_uploads.specs.declared.course.Course.{Course}
use Rattle.sink_uploads.specs.declared.course.SinkFault.{SinkFault}
use Rattle.sink_uploads.specs.declared.course.SinkFault.TheVariants as fault
use Rattle.sink_uploads.specs.declared.visit.Parting.{Parting}
use Rattle.sink_uploads.specs.declared.visit.Parting.TheVariants.{Fault, End, Refused, BadReply}
use Rattle.sink_uploads.specs.declared.visit.Visited.{Visited}

-- No request was answered, and nothing befell the first.
abbrev pub begun : Course
begun = record { done = 0; faults = 0; ends = 0 }

-- a fault, and an end, that a visit ended by
abbrev pub faults_in : Parting → ℕ
faults_in Fault = 1
faults_in other = 0

abbrev pub ends_in : Parting → ℕ
ends_in End = 1
ends_in other = 0

-- What befell a request still counts where it wasn't answered.
abbrev pub still : ℕ → ℕ → ℕ
still zero count = count
still (suc answered) count = 0

-- The course behind a dial that got so many requests answered.
abbrev pub course_after : Course → ℕ → Parting → Course
course_after course answered parting = record {
  done = course.done + answered;
  faults = still answered course.faults + faults_in parting;
  ends = still answered course.ends + ends_in parting;
}

-- A request is left that wasn't answered, and fewer than five faults and ends befell it.
abbrev pub GoesOn : List (List ℕ) → Course → Type 0
GoesOn requests course = (course.done < length requests) × (course.faults + course.ends < 5)

-- An upload ends at a refusal and at bytes that are no reply, and else it may go on.
abbrev pub FollowedBy : Parting → ℕ → Type 0 → (SinkFault → Type 0) → Type 0
FollowedBy (Refused status) batch Goes Stops = Stops (fault.Refused batch status)
FollowedBy (BadReply end) batch Goes Stops = Stops (fault.BadReply batch end)
FollowedBy other batch Goes Stops = Goes

-- How it ends where nothing is dialled any more: each request was answered; or five faults and ends
-- befell the next one; or there is no memory, where fewer did.
abbrev pub EndsRun : {T : Type 0} → List (List ℕ) → Course → Result T SinkFault → Type 0
EndsRun requests course (Ok done) = course.done ≡ length requests
EndsRun requests course (Err (fault.GaveUp batch faults ends)) =
    (course.done < length requests) × (faults + ends ≡ 5) × (batch ≡ course.done + 1)
    × (faults ≡ course.faults) × (ends ≡ course.ends)
EndsRun requests course (Err fault.Memory) = course.faults + course.ends < 5
EndsRun requests course (Err other) = ⊥

-- From this course on, with a dialer that tells this, these are the dials; the upload ends so, and
-- the dialer tells that.
abbrev pub Runs : {L T : Type 0} → (L → Ends) → List (List ℕ) → Course → Dials L → List (Dial L)
    → Result T SinkFault → Dials L → Type 0
Runs ends requests course dials [] result last =
    (last ≡ dials) × EndsRun requests course result
Runs {L} ends requests course dials (d ∷ ds) result last =
    GoesOn requests course
    × ((next : Dials L) × Dialled ends (drop course.done requests) dials d next
    × FollowedBy (parting_of d) (course.done + answered_by d + 1)
    (Runs ends requests (course_after course (answered_by d) (parting_of d)) next ds result last)
    (λ why. (ds ≡ []) × (result ≡ Err why) × (last ≡ next)))

-- The code's own word: what a visit makes of a course.
abbrev pub IsAdvanced : Course → Visited → Result Course SinkFault → Type 0
IsAdvanced course visited result =
    FollowedBy visited.parting (course.done + visited.answered + 1)
    (result ≡ Ok (course_after course visited.answered visited.parting))
    (λ why. result ≡ Err why)
