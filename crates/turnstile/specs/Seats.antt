-- What a seat knows, and what the calls make of it.
use Rattle.std.specs.Prelude.{◌≡◌, ℕ, ◌-◌, ◌≤◌, ◌^◌, nat_lt, max, List, [], ◌∷◌, ◌++◌, length, if◌then◌else◌}
use Rattle.atomic_table.specs.Seated.{TableId}
use Rattle.turnstile.specs.declared.board.Known.{Known}
use Rattle.turnstile.specs.Histories.{NoneOf, Begins, AtMost}

-- a turnstile: which one it is, and the start from which its value stands for the history
pub record Origin (S : Type 0) : Type 0 where
  pub table : TableId
  pub start : S

-- a seat: of which turnstile it is, and what it knows
pub record Seated (E : Type 0) : Type 0 where
  pub table : TableId
  pub knows : Known E

-- the seat's own number, and those of the seats that were joined into it
abbrev pub names : {E : Type 0} → Known E → List ℕ
names k = k.number ∷ k.ended

-- the first seat, at the beginning
abbrev pub first_known : {E : Type 0} → Known E
first_known = record { number = 0; splits = 4294967296; drawn = 0; ended = []; seen = [] }

-- some value stands for the entries
abbrev pub Stood : {T S E : Type 0} → (T → S → List E → Type 0) → S → List E → Type 0
Stood {T} stands start log = (v : T) × stands v start log

-- what was seen, then entries of other seats, then one of the seat's own, which fits all these
abbrev pub TakesTurn : {E : Type 0} → (E → ℕ) → (List E → E → Type 0) → Known E → Known E → Type 0
TakesTurn {E} by fits before after =
    (others : List E) × (e : E) × (after.seen ≡ (before.seen ++ others) ++ e ∷ [])
    × NoneOf by (names before) others × (by e ≡ before.number) × fits (before.seen ++ others) e

-- the seat has another history and another number of tickets drawn, and all else is as it was
abbrev pub SameSeat : {E : Type 0} → Known E → Known E → Type 0
SameSeat before after =
    (after ≡ record before { drawn = after.drawn; seen = after.seen })
    × (before.drawn ≤ after.drawn)

-- a seat has one split less, and the other one has the next number and has seen as much
abbrev pub split_left : {E : Type 0} → Known E → Known E
split_left k = record k { splits = k.splits - 1 }

abbrev pub split_right : {E : Type 0} → Known E → Known E
split_right k = record k { number = 4294967297 - k.splits; splits = 0; ended = [] }

-- the longer one of two histories
abbrev pub longer : {E : Type 0} → List E → List E → List E
longer xs ys = if nat_lt (length xs) (length ys) then ys else xs

-- a seat into which another one was joined
abbrev pub joined : {E : Type 0} → Known E → Known E → Known E
joined a b = record a {
  drawn = max a.drawn b.drawn;
  ended = a.ended ++ b.number ∷ b.ended;
  seen = longer a.seen b.seen;
}

-- the longer history begins with that of each of the two, and has no further entry of the numbers
-- of either
abbrev pub Agrees : {E : Type 0} → (E → ℕ) → Known E → Known E → Type 0
Agrees by a b =
    Begins by (names a) (longer a.seen b.seen) a.seen
    × Begins by (names b) (longer a.seen b.seen) b.seen

-- the whole history: it begins with what the seat has seen, and has no further entry of its
-- numbers. It is at least as long as the tickets that the seat found drawn. Where the seat is the
-- first one, no number is greater than the number of seats split off
abbrev pub IsWhole : {E : Type 0} → (E → ℕ) → Known E → List E → Type 0
IsWhole by k log =
    Begins by (names k) log k.seen × (k.drawn ≤ length log) × (length log ≤ 2 ^ 63)
    × (k.number ≡ 0 → AtMost by (4294967296 - k.splits) log)
