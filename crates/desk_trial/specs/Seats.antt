-- The code's own words: seats of callers, and what stands of their calls in a history.
use Rattle.std.specs.Prelude.{◌≡◌, ℕ, ◌+◌, ◌-◌, ◌≤◌, ◌^◌, nat_lt, List, [], ◌∷◌, length, filter}
use Rattle.atomic_table.specs.Seated.{TableId}
use Rattle.service_desk.specs.ServiceCore.History.{Entry}
use Rattle.service_desk.specs.Turns.{made_by}
use Rattle.turnstile.specs.Histories.{Begins}
use Rattle.turnstile.specs.Seats.{IsWhole, Seated, first_known, names}
use Rattle.turnstile.specs.declared.board.Known.{Known}

-- Each of a list fits its number; the first one has this number.
abbrev pub EachFrom : {X : Type 0} → (ℕ → X → Type 0) → ℕ → List X → Type 0
EachFrom fits number [] = Unit {0}
EachFrom fits number (x ∷ xs) = fits number x × EachFrom fits (number + 1) xs

-- the seat with this number, split off a first seat that has seen nothing
abbrev pub seat_of : ℕ → Known Entry
seat_of number = record { number = number; splits = 0; drawn = 0; ended = []; seen = [] }

-- the first seat, of which so many were split off
abbrev pub first_after : ℕ → Known Entry
first_after count = record first_known { splits = 4294967296 - count }

-- A clerk at a desk sits on the seat with this number of a table, and has asked nothing.
pub record Sits {K : Type 0} (desk : K) (table : TableId) (number : ℕ) (at : K)
    (seat : Seated Entry) : Type 0 where
  pub desk_is : at ≡ desk
  pub table_is : seat.table ≡ table
  pub knows : seat.knows ≡ seat_of number

-- So many calls of this number stand in each history that goes on from what a seat has seen.
abbrev pub StandTimes : ℕ → ℕ → Known Entry → Type 0
StandTimes number turns knows =
    (log : List Entry) → Begins (λ e. e.seat) (names knows) log knows.seen
    → length (made_by (λ e. e.seat) number log) ≡ turns

-- A seat of this table had so many turns with its number.
pub record HadTurns (table : TableId) (number turns calls : ℕ) (seat : Seated Entry)
    : Type 0 where
  pub table_is : seat.table ≡ table
  pub stand : StandTimes number turns seat.knows
  pub few : calls ≤ 2 ^ 33

-- So many calls of numbers below this one stand in each history that goes on from what a seat has
-- seen.
abbrev pub StandBelow : ℕ → ℕ → Known Entry → Type 0
StandBelow count turns knows =
    (log : List Entry) → Begins (λ e. e.seat) (names knows) log knows.seen
    → length (filter (λ e. nat_lt e.seat count) log) ≡ turns

-- Each whole history that goes on from what a seat has seen has so many calls.
abbrev pub IsAllOf : ℕ → Known Entry → Type 0
IsAllOf turns knows =
    (log : List Entry) → IsWhole (λ e. e.seat) knows log → length log ≡ turns
