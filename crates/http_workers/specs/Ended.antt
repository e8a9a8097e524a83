-- How a call on a connection ended.
use Rattle.std.specs.Prelude.{◌≡◌, ◌⊎◌, List, []}
use Rattle.outside.specs.Ends.{Ends}
use Rattle.tellers.specs.Exchange.{Exchange}
use Rattle.http_workers.specs.Framing.{Served}
use Rattle.http_workers.specs.declared.ended.Cause.TheVariants.{Memory}
use Rattle.http_workers.specs.declared.ended.Ended.{Ended}

-- There was no memory to begin with: nothing was read, asked or written.
pub record IsUnbegun (asked : List Exchange → Type 0) (before : Ends) (ended : Ended) (after : Ends)
    : Type 0 where
  pub no_calls : ended.calls ≡ 0
  pub cause_is : ended.cause ≡ Memory
  pub told : asked []
  pub untouched : after ≡ before

-- The connection was served, or there was no memory to begin with.
abbrev pub ServesLink : (List Exchange → Type 0) → Ends → Ended → Ends → Type 0
ServesLink asked before ended after =
    IsUnbegun asked before ended after ⊎ Served asked before ended.calls ended.cause after
