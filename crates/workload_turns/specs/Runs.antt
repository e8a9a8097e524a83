-- A run of the workload.
use Rattle.std.specs.Prelude.{◌≡◌, ℕ, ◌+◌, ◌-◌, List, [], ◌++◌, length, map, None, Result, Ok, Err, ◌⊎◌}
use Rattle.std.specs.List.{flat_map}
use Rattle.tellers.specs.Exchange.{Exchange}
use Rattle.workload_plans.specs.Plans.{changes_asked}
use Rattle.workload_turns.specs.Courses.{AreAnswered, AreStopped, AreTurned, Turn, turn_exchange}
use Rattle.workload_turns.specs.Tallies.{tally_of}
use Rattle.workload_turns.specs.declared.stops.Stop.{Stop}
use Rattle.workload_turns.specs.declared.tally.Tally.{Tally}

-- All was asked: the changes, each of which was answered, and then the pages of what the last
-- invocation reaches, to their end. The tally counts the requests, and the pages' verdicts.
pub record RunsWhole (secret : List ℕ) (number count : ℕ) (changes : List Exchange)
    (turns : List Turn) (tally : Tally) : Type 0 where
  pub answered : AreAnswered (changes_asked secret number count) changes
  pub turned : AreTurned (count - 1) None turns (Ok tt)
  pub tally_is : tally ≡ tally_of (length changes + length turns)
      (flat_map (λ t. t.page.verdicts) turns)

-- It stopped in the changes, or in the pages.
abbrev pub StopsEarly : List ℕ → ℕ → ℕ → List Exchange → List Turn → Stop → Type 0
StopsEarly secret number count changes turns stop =
    (AreStopped (changes_asked secret number count) changes stop × (turns ≡ []))
    ⊎ (AreAnswered (changes_asked secret number count) changes
    × AreTurned (count - 1) None turns (Err stop))

abbrev pub RunsBy : List ℕ → ℕ → ℕ → List Exchange → List Turn → Result Tally Stop → Type 0
RunsBy secret number count changes turns (Ok tally) =
    RunsWhole secret number count changes turns tally
RunsBy secret number count changes turns (Err stop) =
    StopsEarly secret number count changes turns stop

-- A run of the workload of a number and a count, under a secret: just these exchanges were asked
-- and told.
pub record LoadRun (asked : List Exchange → Type 0) (secret : List ℕ) (number count : ℕ)
    (result : Result Tally Stop) : Type 0 where
  pub changes : List Exchange
  pub turns : List Turn
  pub told : asked (changes ++ map (turn_exchange (count - 1)) turns)
  pub runs : RunsBy secret number count changes turns result
