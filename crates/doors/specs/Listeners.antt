-- What contracts see of a door over a listener.
use Rattle.std.specs.Prelude.{◌≡◌, ◌≢◌, ℕ, ◌-◌, Option, Some, None, Result, Ok, Err}
use Rattle.std.specs.Option.{option_map}
use Rattle.fault_counts.specs.declared.Failed.{Failed}

-- How many connections it still gives, where it ends by itself, and how many calls failed.
pub record ListenerState : Type 0 where
  pub left : Option ℕ
  pub faults : ℕ

-- A call gave a connection, which is one fewer where they are counted, or failed.
abbrev pub GivesOrFails : {L : Type 0} → Option ℕ → Result (Option L) Failed → Option ℕ → Type 0
GivesOrFails before (Ok (Some link)) now = now ≡ option_map (λ n. n - 1) before
GivesOrFails before (Ok None) now = ⊥
GivesOrFails before (Err e) now = now ≡ before

-- How many connections are left to give after a call. A door that has given all of its own tells
-- so; any other one gives a connection or fails.
pub record CountsDown {L : Type 0} (before : Option ℕ) (result : Result (Option L) Failed)
    (now : Option ℕ) : Type 0 where
  pub ended : before ≡ Some 0 → (result ≡ Ok None) × (now ≡ Some 0)
  pub going : before ≢ Some 0 → GivesOrFails before result now
