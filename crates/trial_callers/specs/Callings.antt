-- What callers did.
use Rattle.std.specs.Prelude.{◌≤◌, ◌^◌, List}
use Rattle.tellers.specs.Exchange.{Exchange}
use Rattle.trial_callers.specs.declared.callers.Caller.{Caller}
use Rattle.trial_callers.specs.Counting.{IsCounted}

-- A caller asked its teller, and counted it. A task has fewer than 2^33 calls.
pub record HasAskedOwn {T : Type 0} (stands : T → T → List Exchange → Type 0)
    (before after : Caller T) : Type 0 where
  pub counted : IsCounted stands before.teller after.teller after.heard
  pub few : after.heard.calls ≤ 2 ^ 33
