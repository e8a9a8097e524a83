-- What is drawn for invocations in turn: for each but the first which one it includes, then three
-- draws for each of its ten results, and then whether it ends.
use Rattle.std.specs.Prelude.{ℕ, ◌+◌, ◌-◌, ◌*◌, ◌%◌, ◌==◌, if◌then◌else◌, List, map, Option, Some, None}
use Rattle.std.specs.List.{range_with_len}
use Rattle.names_realms.specs.declared.states.Status.{Status}
use Rattle.names_realms.specs.declared.states.Status.TheVariants.{Pass, Fail, Crash, Abort, Skip}
use Rattle.workload_draws.specs.Draws.{draw}
use Rattle.workload_draws.specs.declared.drawn.DrawnResult.{DrawnResult}
use Rattle.workload_draws.specs.declared.drawn.DrawnInvocation.{DrawnInvocation}

abbrev pub status_of : ℕ → Status
status_of n =
    if n == 0 then Pass
    else if n == 1 then Fail
    else if n == 2 then Crash
    else if n == 3 then Abort
    else Skip

-- the result whose draws stand behind so many others
abbrev pub result_at : ℕ → ℕ → DrawnResult
result_at x n = record {
  test = draw x n % 50;
  status = status_of (draw x (n + 1) % 5);
  expected = draw x (n + 2) % 2 == 0;
}

-- the ten results whose draws stand behind so many others
unfoldable pub results_at : ℕ → ℕ → List DrawnResult
results_at x n = map (λ k. result_at x (n + 3 * k)) (range_with_len 0 10)

-- how many draws stand before those of an invocation: 31 of the first one, and 32 of each other
abbrev pub first_draw : ℕ → ℕ
first_draw i = 32 * i - 1

-- the number of the invocation that one with this number includes: one of those before it, by the
-- draw behind so many others
abbrev pub included : ℕ → ℕ → ℕ → Option ℕ
included x n i = if i == 0 then None else Some (draw x n % i)

-- What is drawn for an invocation. Its results' draws stand behind 32 for each one before it.
abbrev pub invocation_at : ℕ → ℕ → DrawnInvocation
invocation_at x i = record {
  includes = included x (first_draw i) i;
  results = results_at x (32 * i);
  finalises = draw x (32 * i + 30) % 4 == 0;
}
