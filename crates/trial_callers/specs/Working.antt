-- The code's own words: what a caller did so far.
use Rattle.std.specs.Prelude.{◌≡◌, ◌+◌, List, [], length, filter}
use Rattle.call_forms.specs.declared.forms.Told.{Told}
use Rattle.tellers.specs.Exchange.{Exchange}
use Rattle.trial_callers.specs.declared.counts.Heard.{Heard}
use Rattle.trial_callers.specs.Counting.{Counts, WasAsked, had_turns, last_told, shows_same}

-- It asked creations, of which the last one was told this.
pub record HasCreated {T : Type 0} (stands : T → T → List Exchange → Type 0) (old new : T)
    (heard : Heard) (last : Told) : Type 0 where
  pub creations : List Exchange
  pub asked : WasAsked stands old new creations
  pub counts : Counts heard creations []
  pub last_is : last ≡ last_told creations

-- It asked reads, and counted those that showed what was told before.
pub record HasRead {T : Type 0} (stands : T → T → List Exchange → Type 0) (old new : T)
    (last : Told) (before after : Heard) : Type 0 where
  pub reads : List Exchange
  pub asked : WasAsked stands old new reads
  pub calls : after.calls ≡ before.calls + length reads
  pub turns : after.turns ≡ before.turns + length (had_turns reads)
  pub created : after.created ≡ before.created
  pub own : after.own ≡ before.own + length (filter (λ x. shows_same x.told last) reads)
