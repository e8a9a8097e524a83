-- The code's own words: the seats of workers, and the one that they are joined into.
use Rattle.std.specs.Prelude.{◌≡◌, ℕ, zero, suc, ◌-◌, ◌≤◌, List, [], ◌∷◌}
use Rattle.std.specs.List.{AllByRecursion}
use Rattle.atomic_table.specs.Seated.{TableId}
use Rattle.service_desk.specs.ServiceCore.History.{Entry}
use Rattle.turnstile.specs.Histories.{Begins}
use Rattle.turnstile.specs.Seats.{Seated, names}
use Rattle.turnstile.specs.declared.board.Known.{Known}
use Rattle.served_desk.specs.Posts.{EachFrom}

-- how many seats the one with this number may still split off, of so many doors' seats
abbrev pub splits_at : ℕ → ℕ → ℕ
splits_at count zero = 4294967297 - count
splits_at count (suc number) = 0

-- the seat with this number, of so many doors' seats, before its first turn
abbrev pub seat_at : ℕ → ℕ → Known Entry
seat_at count number = record {
  number = number;
  splits = splits_at count number;
  drawn = 0;
  ended = [];
  seen = [];
}

-- Seats of one table, each with its number and nothing seen.
abbrev pub AreSeats : TableId → ℕ → ℕ → List (Seated Entry) → Type 0
AreSeats table count number seats =
    EachFrom (λ n s. (s.table ≡ table) × (s.knows ≡ seat_at count n)) number seats

-- A history that goes on from what the joined seat knows goes on from what this one knew.
pub record IsJoined (whole one : Known Entry) : Type 0 where
  pub drawn : one.drawn ≤ whole.drawn
  pub begins : (log : List Entry) → Begins (λ e. e.seat) (names whole) log whole.seen
      → Begins (λ e. e.seat) (names one) log one.seen

-- All of these seats were joined into the first of them.
abbrev pub JoinsAll : List (Known Entry) → Known Entry → Type 0
JoinsAll [] whole = ⊥
JoinsAll (first ∷ others) whole =
    (whole.number ≡ first.number) × (whole.splits ≡ first.splits)
    × AllByRecursion (IsJoined whole) (first ∷ others)
