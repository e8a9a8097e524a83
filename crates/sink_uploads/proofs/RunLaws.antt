-- Dials one after the other.
use Rattle.std.proofs.Common.{◌≡◌, ◌+◌, ◌-◌, ◌*◌, ◌<◌, ◌≤◌, ℕ, zero, suc, List, [], ◌∷◌, length, drop, Result, Ok, Err, refl, sym, subst, arith, length-drop}
use Rattle.outside.specs.Ends.{Ends}
use Rattle.dialers.specs.Dials.{Dials}
use Rattle.sink_uploads.specs.Dialled.{Dial, Dialled, answered_by, parting_of}
use Rattle.sink_uploads.specs.Runs.{Runs, GoesOn, FollowedBy, EndsRun, IsAdvanced, begun, course_after, still}
use Rattle.sink_uploads.specs.Visits.{IsDoneAt}
use Rattle.sink_uploads.specs.declared.course.Course.{Course}
use Rattle.sink_uploads.specs.declared.course.SinkFault.{SinkFault}
use Rattle.sink_uploads.specs.declared.course.SinkFault.TheVariants as fault
use Rattle.sink_uploads.specs.declared.visit.Parting.{Parting}
use Rattle.sink_uploads.specs.declared.visit.Parting.TheVariants.{Done, Fault, End, Refused, BadReply}
use Rattle.sink_uploads.specs.declared.visit.Visited.{Visited}

-- ---- the upload so far

-- Whatever comes from here on, it is the end of an upload from the start.
abbrev pub Continues : {L : Type 0} → (T : Type 0) → (L → Ends) → List (List ℕ) → Dials L → Course → Dials L → Type 0
Continues {L} T ends requests start course dials =
    (ds : List (Dial L)) (result : Result T SinkFault) (last : Dials L) → Runs {L = L} {T = T} ends requests course dials ds result last
    → (all : List (Dial L)) × Runs {L = L} {T = T} ends requests begun start all result last

pub from_start : {L : Type 0} (T : Type 0) (ends : L → Ends) (requests : List (List ℕ)) (start : Dials L) → Continues {L = L} T ends requests start begun start
from_start T ends requests start ds result last x = (ds, x)

-- nothing more is dialled
pub stays : {L : Type 0} (T : Type 0) (ends : L → Ends) (requests : List (List ℕ)) (start dials : Dials L) (course : Course) (result : Result T SinkFault)
    → Continues {L = L} T ends requests start course dials → EndsRun {T = T} requests course result
    → (all : List (Dial L)) × Runs {L = L} {T = T} ends requests begun start all result dials
stays {L} T ends requests start dials course result so_far x = so_far [] result dials (refl, x)

ok_same : (a b : Course) → ◌≡◌ {A = Result Course SinkFault} (Ok a) (Ok b) → a ≡ b
ok_same a b e = cc

ok_not : (a : Course) (w : SinkFault) → ◌≡◌ {A = Result Course SinkFault} (Ok a) (Err w) → ⊥
ok_not a w e = cc

err_same : (v w : SinkFault) → ◌≡◌ {A = Result Course SinkFault} (Err v) (Err w) → v ≡ w
err_same v w e = cc

err_not : (w : SinkFault) (a : Course) → ◌≡◌ {A = Result Course SinkFault} (Err w) (Ok a) → ⊥
err_not w a e = cc

-- an upload that goes on behind a dial
follow_on : (p : Parting) (batch : ℕ) (after made : Course) → FollowedBy p batch (◌≡◌ {A = Result Course SinkFault} (Ok after) (Ok made)) (λ why. ◌≡◌ {A = Result Course SinkFault} (Ok after) (Err why))
    → (X : Course → Type 0) (S : SinkFault → Type 0) → X after → FollowedBy p batch (X made) S
follow_on Done batch after made e X S x = subst X (ok_same after made e) x
follow_on Fault batch after made e X S x = subst X (ok_same after made e) x
follow_on End batch after made e X S x = subst X (ok_same after made e) x
follow_on (Refused status) batch after made e X S x = absurd (ok_not after (fault.Refused batch status) e)
follow_on (BadReply end) batch after made e X S x = absurd (ok_not after (fault.BadReply batch end) e)

pub goes_on : {L : Type 0} (T : Type 0) (ends : L → Ends) (requests : List (List ℕ)) (start now next : Dials L) (course after : Course) (v : Visited) (d : Dial L)
    → Continues {L = L} T ends requests start course now → GoesOn requests course → Dialled ends (drop course.done requests) now d next
    → answered_by d ≡ v.answered → parting_of d ≡ v.parting → IsAdvanced course v (Ok after) → Continues {L = L} T ends requests start after next
goes_on {L} T ends requests start now next course after v d so_far on dialled many parted advanced ds result last x =
    let X : Course → Type 0 = λ c. Runs {L = L} {T = T} ends requests c next ds result last in
    let S : SinkFault → Type 0 = λ why. (ds ≡ []) × (result ≡ Err why) × (last ≡ next) in
    let by_visit : FollowedBy v.parting (course.done + v.answered + 1) (X (course_after course v.answered v.parting)) S =
    follow_on v.parting (course.done + v.answered + 1) after (course_after course v.answered v.parting) advanced X S x in
    let by_parting : FollowedBy (parting_of d) (course.done + v.answered + 1) (X (course_after course v.answered (parting_of d))) S =
    subst (λ p. FollowedBy p (course.done + v.answered + 1) (X (course_after course v.answered p)) S) (sym parted) by_visit in
    let by_dial : FollowedBy (parting_of d) (course.done + answered_by d + 1) (X (course_after course (answered_by d) (parting_of d))) S =
    subst (λ n. FollowedBy (parting_of d) (course.done + n + 1) (X (course_after course n (parting_of d))) S) (sym many) by_parting in
    so_far (d ∷ ds) result last (on, (next, dialled, by_dial))

-- an upload that ends behind a dial
follow_not : (p : Parting) (batch : ℕ) (made : Course) (why : SinkFault) → FollowedBy p batch (◌≡◌ {A = Result Course SinkFault} (Err why) (Ok made)) (λ w. ◌≡◌ {A = Result Course SinkFault} (Err why) (Err w))
    → (X : Type 0) (S : SinkFault → Type 0) → S why → FollowedBy p batch X S
follow_not Done batch made why e X S x = absurd (err_not why made e)
follow_not Fault batch made why e X S x = absurd (err_not why made e)
follow_not End batch made why e X S x = absurd (err_not why made e)
follow_not (Refused status) batch made why e X S x = subst S (err_same why (fault.Refused batch status) e) x
follow_not (BadReply end) batch made why e X S x = subst S (err_same why (fault.BadReply batch end) e) x

pub stops : {L : Type 0} (T : Type 0) (ends : L → Ends) (requests : List (List ℕ)) (start now next : Dials L) (course : Course) (why : SinkFault) (v : Visited) (d : Dial L)
    → Continues {L = L} T ends requests start course now → GoesOn requests course → Dialled ends (drop course.done requests) now d next
    → answered_by d ≡ v.answered → parting_of d ≡ v.parting → IsAdvanced course v (Err why)
    → (all : List (Dial L)) × Runs {L = L} {T = T} ends requests begun start all (Err why) next
stops {L} T ends requests start now next course why v d so_far on dialled many parted advanced =
    let X : ℕ → Parting → Type 0 = λ n p. Runs {L = L} {T = T} ends requests (course_after course n p) next [] (Err why) next in
    let none : List (Dial L) = [] in
    let answer : Result T SinkFault = Err why in
    let S : SinkFault → Type 0 = λ w. (none ≡ []) × (answer ≡ Err w) × (next ≡ next) in
    let by_visit : FollowedBy v.parting (course.done + v.answered + 1) (X v.answered v.parting) S =
    follow_not v.parting (course.done + v.answered + 1) (course_after course v.answered v.parting) why advanced (X v.answered v.parting) S (refl, refl, refl) in
    let by_parting : FollowedBy (parting_of d) (course.done + v.answered + 1) (X v.answered (parting_of d)) S =
    subst (λ p. FollowedBy p (course.done + v.answered + 1) (X v.answered p) S) (sym parted) by_visit in
    let by_dial : FollowedBy (parting_of d) (course.done + answered_by d + 1) (X (answered_by d) (parting_of d)) S =
    subst (λ n. FollowedBy (parting_of d) (course.done + n + 1) (X n (parting_of d)) S) (sym many) by_parting in
    so_far (d ∷ []) answer next (on, (next, dialled, by_dial))

-- ---- how much is left to be done

abbrev pub work_left : List (List ℕ) → Course → ℕ
work_left requests course = 6 * (length requests - course.done) + (5 - (course.faults + course.ends))

some_answered : (n : ℕ) (requests : List (List ℕ)) (course : Course) (p : Parting) → course.done < length requests
    → work_left requests (course_after course (suc n) p) < work_left requests course
some_answered n requests course p less =
    let fewer : length requests - (course.done + suc n) + 1 ≤ length requests - course.done = omega arith in
    omega (arith, fewer)

pub falls : (requests : List (List ℕ)) (course after : Course) (v : Visited) → GoesOn requests course
    → IsDoneAt (drop course.done requests) v.answered v.parting → IsAdvanced course v (Ok after)
    → work_left requests after < work_left requests course
falls requests course after v on done advanced = by_case v.answered v.parting on.0 on.1 done advanced
  where
    by_case : (n : ℕ) (p : Parting) → course.done < length requests → course.faults + course.ends < 5
        → IsDoneAt (drop course.done requests) n p
        → FollowedBy p (course.done + n + 1) (◌≡◌ {A = Result Course SinkFault} (Ok after) (Ok (course_after course n p))) (λ w. ◌≡◌ {A = Result Course SinkFault} (Ok after) (Err w))
        → work_left requests after < work_left requests course
    by_case zero Done less few d e =
        let none = d refl in
        let left = length-drop course.done requests in
        absurd (omega (arith, less, none, left))
    by_case zero Fault less few d e =
        subst (λ c. work_left requests c < work_left requests course) (sym (ok_same after (course_after course 0 Fault) e)) (omega (arith, few))
    by_case zero End less few d e =
        subst (λ c. work_left requests c < work_left requests course) (sym (ok_same after (course_after course 0 End) e)) (omega (arith, few))
    by_case (suc n) Done less few d e =
        subst (λ c. work_left requests c < work_left requests course) (sym (ok_same after (course_after course (suc n) Done) e)) (some_answered n requests course Done less)
    by_case (suc n) Fault less few d e =
        subst (λ c. work_left requests c < work_left requests course) (sym (ok_same after (course_after course (suc n) Fault) e)) (some_answered n requests course Fault less)
    by_case (suc n) End less few d e =
        subst (λ c. work_left requests c < work_left requests course) (sym (ok_same after (course_after course (suc n) End) e)) (some_answered n requests course End less)
    by_case n (Refused status) less few d e = absurd (ok_not after _ e)
    by_case n (BadReply end) less few d e = absurd (ok_not after _ e)

-- how many requests were answered stays within them
pub within : (requests : List (List ℕ)) (course after : Course) (v : Visited) → course.done < length requests
    → v.answered ≤ length (drop course.done requests) → IsAdvanced course v (Ok after) → after.done ≤ length requests
within requests course after v less few advanced = by_case v.parting advanced
  where
    sum : course.done + v.answered ≤ length requests
    sum = let left = length-drop course.done requests in omega (arith, less, few, left)

    by_case : (p : Parting) → FollowedBy p (course.done + v.answered + 1) (◌≡◌ {A = Result Course SinkFault} (Ok after) (Ok (course_after course v.answered p))) (λ w. ◌≡◌ {A = Result Course SinkFault} (Ok after) (Err w))
        → after.done ≤ length requests
    by_case Done e = subst (λ c. c.done ≤ length requests) (sym (ok_same after (course_after course v.answered Done) e)) sum
    by_case Fault e = subst (λ c. c.done ≤ length requests) (sym (ok_same after (course_after course v.answered Fault) e)) sum
    by_case End e = subst (λ c. c.done ≤ length requests) (sym (ok_same after (course_after course v.answered End) e)) sum
    by_case (Refused status) e = absurd (ok_not after _ e)
    by_case (BadReply end) e = absurd (ok_not after _ e)

-- at most five faults and ends befell a request
pub at_most_five : (course after : Course) (v : Visited) → course.faults + course.ends < 5 → IsAdvanced course v (Ok after) → after.faults + after.ends ≤ 5
at_most_five course after v few advanced = by_case v.answered v.parting advanced
  where
    low : (n : ℕ) → still n course.faults + still n course.ends < 5
    low zero = few
    low (suc n) = omega arith

    by_case : (n : ℕ) (p : Parting) → FollowedBy p (course.done + n + 1) (◌≡◌ {A = Result Course SinkFault} (Ok after) (Ok (course_after course n p))) (λ w. ◌≡◌ {A = Result Course SinkFault} (Ok after) (Err w))
        → after.faults + after.ends ≤ 5
    by_case n Done e = subst (λ c. c.faults + c.ends ≤ 5) (sym (ok_same after (course_after course n Done) e)) (let l = low n in omega (arith, l))
    by_case n Fault e = subst (λ c. c.faults + c.ends ≤ 5) (sym (ok_same after (course_after course n Fault) e)) (let l = low n in omega (arith, l))
    by_case n End e = subst (λ c. c.faults + c.ends ≤ 5) (sym (ok_same after (course_after course n End) e)) (let l = low n in omega (arith, l))
    by_case n (Refused status) e = absurd (ok_not after _ e)
    by_case n (BadReply end) e = absurd (ok_not after _ e)
