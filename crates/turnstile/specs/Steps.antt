-- What each step tells the seat that makes it.
use Rattle.std.specs.Prelude.{◌≡◌, ℕ, ◌-◌, ◌≤◌, ◌==◌, min, List, [], ◌∷◌, ◌++◌, length, Option, Some, MatchBool}
use Rattle.atomic_table.specs.Table.{Me, Step}
use Rattle.turnstile.specs.declared.board.Known.{Known}
use Rattle.turnstile.specs.declared.board.View.{View}
use Rattle.turnstile.specs.declared.board.Role.{Role}
use Rattle.turnstile.specs.declared.board.Role.TheVariants.{Idle, Waits, Holds, Ends}
use Rattle.turnstile.specs.Histories.{Begins, AtMost}
use Rattle.turnstile.specs.Seats.{names, joined, Agrees}
use Rattle.turnstile.specs.Rule.{own_of, first_of, idle, waiting, holding, ending}

abbrev pub Sat : Type 0 → Type 0 → Type 0
Sat T E = Me (Option T) (View E)

-- so many tickets were found drawn. That for the end is not counted
abbrev pub noted : {E : Type 0} → Known E → ℕ → Known E
noted k n = record k { drawn = min n 9223372036854775808 }

-- at its turn a seat finds the whole history
abbrev pub Finds : {E : Type 0} → (E → ℕ) → ℕ → Known E → Known E → Type 0
Finds by t before after =
    (after ≡ record before { seen = after.seen }) × Begins by (names before) after.seen before.seen
    × (length after.seen ≡ t)
    × (before.number ≡ 0 → AtMost by (4294967296 - before.splits) after.seen)

-- two views in one, until they are seen to agree
abbrev pub met : {E : Type 0} → View E → View E → View E
met v w = record { role = v.role; known = v.known ++ w.known }

abbrev pub second_in : {E : Type 0} → List (Known E) → Known E
second_in [] = first_of []
second_in (k ∷ ks) = first_of ks

abbrev pub second_of : {E : Type 0} → View E → Known E
second_of v = second_in v.known

module _ {T E : Type 0} where
  -- word 0 becomes one more, where it was the number tried
  abbrev pub drew : Step (Option T) → Sat T E → ℕ → Sat T E → Type 0
  drew s me found after = ((own_of me.0).drawn ≤ found)
      × MatchBool (found == s.first) (after ≡ (waiting s.first (noted (own_of me.0) found), me.1))
      (after ≡ (idle (noted (own_of me.0) found), me.1))

  abbrev pub LooksAs : (T → List E → Type 0) → (E → ℕ) → Role → ℕ → Sat T E → Sat T E → Type 0
  LooksAs stands by Idle found me after = after ≡ me
  LooksAs stands by (Holds t) found me after = after ≡ me
  LooksAs stands by (Ends t) found me after = after ≡ me
  LooksAs stands by (Waits t) found me after = MatchBool (found == t)
      ((v : T) × (after ≡ (holding t (own_of after.0), (0, Some v) ∷ me.1))
      × stands v (own_of after.0).seen × Finds by t (own_of me.0) (own_of after.0)) (after ≡ me)

  -- word 1 is read: where it is the ticket, the seat takes the slot
  abbrev pub looked : (T → List E → Type 0) → (E → ℕ) → Step (Option T) → Sat T E → ℕ → Sat T E
      → Type 0
  looked stands by s me found after = LooksAs stands by me.0.role found me after

  -- word 1 becomes one more, the slot goes home, and the history has one more entry
  abbrev pub passed_on : (List E → E → Type 0) → Step (Option T) → Sat T E → ℕ → Sat T E → Type 0
  passed_on fits s me found after =
      (e : E) × (after ≡ (idle (record (own_of me.0) { seen = (own_of me.0).seen ++ e ∷ [] }), []))
      × fits (own_of me.0).seen e

  abbrev pub EndsAs : Role → Sat T E → Sat T E → Type 0
  EndsAs Idle me after = after ≡ me
  EndsAs (Waits t) me after = after ≡ me
  EndsAs (Ends t) me after = after ≡ me
  EndsAs (Holds t) me after = after ≡ (ending t (own_of me.0), [])

  -- word 1 is read, and the slot goes home without a value
  abbrev pub ended : Step (Option T) → Sat T E → ℕ → Sat T E → Type 0
  ended s me found after = EndsAs me.0.role me after

  -- word 0 is read, and what two seats knew becomes what one knows
  abbrev pub settled : (E → ℕ) → Step (Option T) → Sat T E → ℕ → Sat T E → Type 0
  settled by s me found after =
      (after ≡ (idle (joined (own_of me.0) (second_of me.0)), []))
      × Agrees by (own_of me.0) (second_of me.0)
