-- Requests that are asked one after the other, and pages that are turned.
use Rattle.std.specs.Prelude.{◌≡◌, ℕ, List, [], ◌∷◌, ◌++◌, length, map, Option, Some, None, Result, Ok, Err, ◌⊎◌}
use Rattle.std.specs.List.{flat_map}
use Rattle.call_forms.specs.declared.asked.Asked.{Asked}
use Rattle.call_forms.specs.declared.forms.Answer.{Answer}
use Rattle.call_forms.specs.declared.forms.Standin.{Standin}
use Rattle.call_forms.specs.declared.forms.Told.{Told}
use Rattle.call_forms.specs.declared.forms.Told.TheVariants.{Made, Standin as Instead}
use Rattle.page_tokens.specs.declared.kinds.VerdictCursor.{VerdictCursor}
use Rattle.tellers.specs.Exchange.{Exchange}
use Rattle.workload_plans.specs.Plans.{page_asked}
use Rattle.workload_plans.specs.Requests.{page_query}
use Rattle.workload_turns.specs.Pages.{IsNext, Page, Shows, no_page}
use Rattle.workload_turns.specs.Stops.{stop_of}
use Rattle.workload_turns.specs.Tallies.{Counts}
use Rattle.workload_turns.specs.declared.stops.Stop.{Stop}
use Rattle.workload_turns.specs.declared.stops.Stop.TheVariants.{Memory}
use Rattle.workload_turns.specs.declared.tally.Tally.{Tally}

-- From one to the other a teller was asked and told this.
abbrev pub Advances : {T : Type 0} → (T → T → List Exchange → Type 0) → T → List Exchange → T
    → Type 0
Advances {T} stands old exchanges new =
    (first : T) (before : List Exchange) → stands first old before
    → stands first new (before ++ exchanges)

abbrev pub IsMade : Told → Type 0
IsMade told = (answer : Answer) × (told ≡ Made answer)

-- Each request was asked, in order, and answered.
abbrev pub AreAnswered : List Asked → List Exchange → Type 0
AreAnswered [] [] = Unit {0}
AreAnswered [] (e ∷ es) = ⊥
AreAnswered (q ∷ qs) [] = ⊥
AreAnswered (q ∷ qs) (e ∷ es) = (e.asked ≡ q) × IsMade e.told × AreAnswered qs es

-- Of what was still to be asked nothing was, for want of memory; or the first was, and a stand-in
-- was told.
abbrev pub StopsBefore : List Asked → List Exchange → Stop → Type 0
StopsBefore qs [] stop = stop ≡ Memory
StopsBefore [] (e ∷ es) stop = ⊥
StopsBefore (q ∷ qs) (e ∷ es) stop =
    (e.asked ≡ q) × (es ≡ []) × ((standin : Standin) × (e.told ≡ Instead standin)
    × (stop ≡ stop_of standin))

-- Some first requests were answered, and there it stopped.
pub record AreStopped (requests : List Asked) (exchanges : List Exchange) (stop : Stop)
    : Type 0 where
  pub done : List Asked
  pub left : List Asked
  pub requests_are : requests ≡ done ++ left
  pub answered : List Exchange
  pub last : List Exchange
  pub exchanges_are : exchanges ≡ answered ++ last
  pub are : AreAnswered done answered
  pub stops : StopsBefore left last stop

abbrev pub AreAsked : List Asked → List Exchange → Result (Unit {0}) Stop → Type 0
AreAsked requests exchanges (Ok done) = AreAnswered requests exchanges
AreAsked requests exchanges (Err stop) = AreStopped requests exchanges stop

-- Requests were asked of a teller, and counted.
pub record Asks {T : Type 0} (stands : T → T → List Exchange → Type 0)
    (old : T) (counted : Tally) (requests : List Asked) (result : Result (Unit {0}) Stop)
    (new : T) (recounted : Tally) : Type 0 where
  pub exchanges : List Exchange
  pub advances : Advances stands old exchanges new
  pub are : AreAsked requests exchanges result
  pub counts : Counts counted (length exchanges) [] recounted

-- A page that was asked for: behind which verdict it begins, what was told, and what that shows.
pub record Turn : Type 0 where
  pub behind : Option VerdictCursor
  pub told : Told
  pub page : Page

abbrev pub turn_exchange : ℕ → Turn → Exchange
turn_exchange i t = record { asked = page_asked i t.behind; told = t.told }

abbrev pub GoesBy : Option VerdictCursor → (VerdictCursor → Type 0) → Type 0 → Type 0
GoesBy None goes_on ends = ends
GoesBy (Some next) goes_on ends = goes_on next

-- What follows a page: the one behind it, or the end; or the stop where a stand-in was told, or
-- where there was no memory to read it.
abbrev pub FollowedBy : ℕ → Turn → (VerdictCursor → Type 0) → Type 0 → (Stop → Type 0) → Type 0
FollowedBy i t goes_on ends stops =
    ((answer : Answer) × (t.told ≡ Made answer)
    × ((Shows answer t.page × ((next : Option VerdictCursor)
    × IsNext (page_query i) t.page.next next × GoesBy next goes_on ends))
    ⊎ ((t.page ≡ no_page) × stops Memory)))
    ⊎ ((standin : Standin) × (t.told ≡ Instead standin) × (t.page ≡ no_page)
    × stops (stop_of standin))

-- Pages were turned from a place on: each behind the one before, to one that tells of none behind
-- it, or to a stop.
abbrev pub AreTurned : ℕ → Option VerdictCursor → List Turn → Result (Unit {0}) Stop → Type 0
AreTurned i behind [] result = result ≡ Err Memory
AreTurned i behind (t ∷ ts) result =
    (t.behind ≡ behind)
    × FollowedBy i t (λ next. AreTurned i (Some next) ts result) ((ts ≡ []) × (result ≡ Ok tt))
    (λ stop. (ts ≡ []) × (result ≡ Err stop))

-- Pages were asked of a teller, and counted.
pub record ReadsPages {T : Type 0} (stands : T → T → List Exchange → Type 0) (i : ℕ)
    (old : T) (counted : Tally) (behind : Option VerdictCursor)
    (result : Result (Unit {0}) Stop) (new : T) (recounted : Tally) : Type 0 where
  pub turns : List Turn
  pub advances : Advances stands old (map (turn_exchange i) turns) new
  pub are : AreTurned i behind turns result
  pub counts : Counts counted (length turns) (flat_map (λ t. t.page.verdicts) turns) recounted

-- One page was asked of a teller, counted, and tells of the one behind it.
pub record IsTurned {T : Type 0} (stands : T → T → List Exchange → Type 0) (i : ℕ)
    (old : T) (counted : Tally) (behind next : Option VerdictCursor)
    (new : T) (recounted : Tally) : Type 0 where
  pub answer : Answer
  pub page : Page
  pub shows : Shows answer page
  pub next_is : IsNext (page_query i) page.next next
  pub advances : Advances stands old
      (record { asked = page_asked i behind; told = Made answer } ∷ []) new
  pub counts : Counts counted 1 page.verdicts recounted
