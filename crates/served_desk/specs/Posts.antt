-- Doors that are served over one history.
use Rattle.std.specs.Prelude.{◌≡◌, ℕ, ◌+◌, ◌<◌, ◌^◌, true, List, [], ◌∷◌, length, map, sum_by}
use Rattle.std.specs.Borrow.{GName}
use Rattle.std.specs.List.{AllByRecursion, list_any}
use Rattle.outside.specs.Ends.{Ends}
use Rattle.dialers.specs.Dials.{Dials}
use Rattle.door_workers.specs.Tallies.{up_to_most}
use Rattle.door_workers.specs.Work.{ServesDoor}
use Rattle.door_workers.specs.declared.tally.Tally.{Tally}
use Rattle.tellers.specs.Exchange.{Exchange}
use Rattle.service_desk.specs.ServiceCore.History.{Entry}
use Rattle.service_desk.specs.RecordDesk.Standing.{exchange_of}
use Rattle.service_desk.specs.Turns.{HasCalls, is_spent}

-- Each of a list fits its number; the first one has this number.
abbrev pub EachFrom : {X : Type 0} → (ℕ → X → Type 0) → ℕ → List X → Type 0
EachFrom fits number [] = Unit {0}
EachFrom fits number (x ∷ xs) = fits number x × EachFrom fits (number + 1) xs

-- These are the calls of a number: its entries in the history are these exchanges, each once, in
-- order, without those that had no turn, of which there is one only where the history has all 2^63
-- turns.
pub record AreCallsOf (log : List Entry) (number : ℕ) (exchanges : List Exchange) : Type 0 where
  pub calls : HasCalls (λ e. e.seat) exchange_of number log exchanges
  pub spent : AllByRecursion (λ x. is_spent x.told ≡ true → length log ≡ 2 ^ 63) exchanges

-- A door as it was handed over and as it came back, and what its worker counted.
pub record Post (A : Type 0) : Type 0 where
  pub before : A
  pub tally : Tally
  pub after : A

-- the sums of what workers counted, and whether a door of theirs failed
abbrev pub sum_of : List Tally → Tally
sum_of tallies = record {
  connections = up_to_most (sum_by (λ t. t.connections) tallies);
  calls = up_to_most (sum_by (λ t. t.calls) tallies);
  failed = list_any (λ t. t.failed) tallies;
}

-- Each door was served by a worker of its own: its links, one after the other, to its end or to a
-- call for a link that failed. What was asked on them are the calls of the door's number, which are
-- counted from 0. No entry of the history has another number. These are the sums.
pub record ServesDoors {A L : Type 0} (tells : A → Dials L) (ends : L → Ends)
    (holds : L → List GName) (log : List Entry) (before : List A) (sum : Tally) (after : List A)
    : Type 0 where
  pub posts : List (Post A)
  pub before_are : before ≡ map (λ p. p.before) posts
  pub after_are : after ≡ map (λ p. p.after) posts
  pub served : EachFrom (λ number p. ServesDoor ends holds (AreCallsOf log number)
      (tells p.before) p.tally (tells p.after)) 0 posts
  pub numbers : AllByRecursion (λ e. e.seat < length before) log
  pub sum_is : sum ≡ sum_of (map (λ p. p.tally) posts)
