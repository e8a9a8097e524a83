-- Links that were served, one after the other, and what of them passed through their door.
use Rattle.std.specs.Prelude.{◌≡◌, ℕ, List, ◌++◌, Option, Some, None, map, sum_by, option_map}
use Rattle.std.specs.List.{flat_map}
use Rattle.std.specs.Borrow.{GName}
use Rattle.outside.specs.Ends.{Ends}
use Rattle.dialers.specs.Dials.{Dials}
use Rattle.tellers.specs.Exchange.{Exchange}
use Rattle.http_workers.specs.Ended.{ServesLink}
use Rattle.http_workers.specs.declared.ended.Ended.{Ended}

-- A link as its door gave it and as it was given back, how the call ended that served it, and what
-- was asked and told on it.
pub record Visit (L : Type 0) : Type 0 where
  pub given : L
  pub back : L
  pub ended : Ended
  pub exchanges : List Exchange

abbrev pub links_given : {L : Type 0} → List (Visit L) → List L
links_given visits = map (λ v. v.given) visits

abbrev pub links_back : {L : Type 0} → List (Visit L) → List L
links_back visits = map (λ v. v.back) visits

-- what was asked and told on all of them, link after link
abbrev pub exchanges_on : {L : Type 0} → List (Visit L) → List Exchange
exchanges_on visits = flat_map (λ v. v.exchanges) visits

-- how many calls were made on all of them
abbrev pub calls_on : {L : Type 0} → List (Visit L) → ℕ
calls_on visits = sum_by (λ v. v.ended.calls) visits

-- The link was served as a connection is, just these exchanges were made on it, and no reference
-- that it works through was exchanged.
pub record WasServed {L : Type 0} (ends : L → Ends) (holds : L → List GName) (visit : Visit L)
    : Type 0 where
  pub serves : ServesLink (λ exchanges. exchanges ≡ visit.exchanges) (ends visit.given)
      visit.ended (ends visit.back)
  pub same_holds : holds visit.back ≡ holds visit.given

-- These links stood in front of those that were to come, of which the others are left. Of a door
-- that told none nothing is said.
abbrev pub GaveFront : {L : Type 0} → Option (List L) → List L → Option (List L) → Type 0
GaveFront None links now = Unit {0}
GaveFront {L} (Some before) links now =
    (rest : List L) × (now ≡ Some rest) × (before ≡ links ++ rest)

-- The door gave these links in order, and each was given back in order, so that as many are out as
-- were.
pub record PassedThrough {L : Type 0} (before : Dials L) (visits : List (Visit L))
    (after : Dials L) : Type 0 where
  pub gave : GaveFront before.coming (links_given visits) after.coming
  pub returned : after.returned ≡ option_map (λ links. links ++ links_back visits) before.returned
  pub out : after.out ≡ before.out
