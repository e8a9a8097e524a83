-- What a seat asks and is told, turn after turn.
use Rattle.std.specs.Prelude.{◌≡◌, ◌⊎◌, ℕ, ◌+◌, ◌<◌, ◌^◌, ◌==◌, Bool, true, false, not, List, [], ◌∷◌, ◌++◌, length, map, filter}
use Rattle.std.specs.List.{AllByRecursion}
use Rattle.call_forms.specs.declared.forms.Standin.TheVariants.{Memory, Spent, Unavailable}
use Rattle.call_forms.specs.declared.forms.Told.{Told}
use Rattle.call_forms.specs.declared.forms.Told.TheVariants.{Made, Standin as Instead}
use Rattle.tellers.specs.Exchange.{Exchange}
use Rattle.turnstile.specs.declared.board.Known.{Known}
use Rattle.turnstile.specs.Seats.{SameSeat, TakesTurn}

-- whether this was told because no turn is left
abbrev pub is_spent : Told → Bool
is_spent (Made answer) = false
is_spent (Instead Unavailable) = false
is_spent (Instead Memory) = false
is_spent (Instead Spent) = true

-- the entries of one number
abbrev pub made_by : {E : Type 0} → (E → ℕ) → ℕ → List E → List E
made_by by number log = filter (λ e. by e == number) log

-- the exchanges that had a turn
abbrev pub had_turns : List Exchange → List Exchange
had_turns exchanges = filter (λ x. not (is_spent x.told)) exchanges

-- The entries of a number in a history are these exchanges, each once, in order, without those that
-- had no turn.
abbrev pub HasCalls : {E : Type 0} → (E → ℕ) → (E → Exchange) → ℕ → List E → List Exchange → Type 0
HasCalls by exchange number log exchanges =
    map exchange (made_by by number log) ≡ had_turns exchanges

-- A call had its turn: the seat has seen what it had seen, then entries of other seats, and then
-- one of its own, which is what was asked and told and fits all before it. Fewer than 2^63 tickets
-- were found drawn, one less than the entries that the seat has seen.
pub record HasTurn {E : Type 0} (by : E → ℕ) (exchange : E → Exchange)
    (fits : List E → E → Type 0) (before : Known E) (x : Exchange) (after : Known E) : Type 0 where
  pub turn : TakesTurn by (λ log e. (exchange e ≡ x) × fits log e) before after
  pub few : after.drawn < 2 ^ 63
  pub counted : length after.seen ≡ after.drawn + 1

-- A call had no turn: all tickets were found drawn, and the seat has seen no more.
pub record HasNoTurn {E : Type 0} (before after : Known E) : Type 0 where
  pub drawn : after.drawn ≡ 2 ^ 63
  pub same : after.seen ≡ before.seen

-- What a seat asked and was told between two of its states. Its entries in what it has seen since
-- are these exchanges, each once, in order, without those that had no turn, of which there is one
-- only where all tickets are drawn.
pub record HasAsked {E : Type 0} (by : E → ℕ) (exchange : E → Exchange)
    (stood : List E → Type 0) (first now : Known E) (exchanges : List Exchange) : Type 0 where
  pub same : SameSeat first now
  pub more : List E
  pub seen : now.seen ≡ first.seen ++ more
  pub own : HasCalls by exchange first.number more exchanges
  pub led : (more ≡ []) ⊎ stood now.seen
  pub spent : AllByRecursion (λ x. is_spent x.told ≡ true → now.drawn ≡ 2 ^ 63) exchanges
