-- The calls on an end in memory, and how each of them is to end.
use Rattle.std.specs.Prelude.{ℕ, zero, suc, ◌==◌, List, count_by}
use Rattle.fault_counts.specs.Causes.{counted}
use Rattle.fault_counts.specs.declared.schedule.Outcome.{Outcome}
use Rattle.fault_counts.specs.declared.schedule.Outcome.TheVariants.{Works, Fails, Stalls}

-- How many calls there were, and the numbers of those that are to fail, counted from 1.
pub record Calls : Type 0 where
  pub fails : List ℕ
  pub made : ℕ

-- No call was made yet.
abbrev pub no_call_yet : List ℕ → Calls
no_call_yet fails = record { fails = fails; made = 0 }

abbrev pub one_call_more : Calls → Calls
one_call_more calls = record calls { made = counted calls.made }

-- How often the number of the coming call is listed.
abbrev pub times_listed : Calls → ℕ
times_listed calls = count_by (λ n. n == counted calls.made) calls.fails

-- A number that is listed once is that of a call that fails. Listed more often it is that of a
-- write that takes nothing.
abbrev pub outcome_of : ℕ → Outcome
outcome_of zero = Works
outcome_of (suc zero) = Fails
outcome_of (suc (suc n)) = Stalls
