-- What a dialer or a door tells, and what one call on it did.
use Rattle.std.specs.Prelude.{◌≡◌, ℕ, ◌-◌, ◌+◌, ◌<◌, List, [], ◌∷◌, ◌++◌, Option, Some, None, Result, Ok, Err, option_map}
use Rattle.std.specs.Option.{ForSome}
use Rattle.fault_counts.specs.Causes.{HasCause}
use Rattle.fault_counts.specs.declared.Failed.{Failed}

-- Of a dialer or a door: the links that are to come and those that were given back, both in order,
-- and how many links are out, each where it is told; and how many calls failed.
pub record Dials (L : Type 0) : Type 0 where
  pub coming : Option (List L)
  pub returned : Option (List L)
  pub out : Option ℕ
  pub faults : ℕ

-- The links that were to come, without the first, which is this one. Of a dialer that told none
-- nothing is said.
abbrev pub GaveFirst : {L : Type 0} → Option (List L) → L → Option (List L) → Type 0
GaveFirst None link now = Unit {0}
GaveFirst {L} (Some before) link now = (rest : List L) × (now ≡ Some rest) × (before ≡ link ∷ rest)

-- A call that failed gave none.
abbrev pub GivesLink : {L : Type 0} → Option (List L) → Result L Failed → Option (List L) → Type 0
GivesLink before (Ok link) now = GaveFirst before link now
GivesLink before (Err e) now = now ≡ before

abbrev pub CountsOut : {L : Type 0} → Option ℕ → Result L Failed → Option ℕ → Type 0
CountsOut before (Ok link) now = now ≡ option_map (λ n. n + 1) before
CountsOut before (Err e) now = now ≡ before

-- What one call for a link did.
pub record Connects {L : Type 0} (before : Dials L) (result : Result L Failed) (after : Dials L)
    : Type 0 where
  pub cause : HasCause before.faults after.faults result
  pub gives : GivesLink before.coming result after.coming
  pub out : CountsOut before.out result after.out
  pub returned : after.returned ≡ before.returned

-- No link is to come. Of a door that told none nothing is said.
abbrev pub NoneToCome : {L : Type 0} → Option (List L) → Type 0
NoneToCome None = Unit {0}
NoneToCome (Some links) = links ≡ []

-- What one call on a door did. One that gave a link, or failed, did what a dialer's call does. One
-- that tells that there is none comes where none is to come, and changes nothing.
abbrev pub Accepts : {L : Type 0} → Dials L → Result (Option L) Failed → Dials L → Type 0
Accepts before (Ok (Some link)) after = Connects before (Ok link) after
Accepts before (Ok None) after = NoneToCome before.coming × (after ≡ before)
Accepts before (Err e) after = Connects before (Err e) after

-- A link is out, where that is told.
abbrev pub IsOneOut : {L : Type 0} → Dials L → Type 0
IsOneOut dials = ForSome dials.out (λ n. 0 < n)

-- The dialer when a link was given back: it stands behind those before it.
abbrev pub with_returned : {L : Type 0} → Dials L → L → Dials L
with_returned dials link = record {
  coming = dials.coming;
  returned = option_map (λ links. links ++ link ∷ []) dials.returned;
  out = option_map (λ n. n - 1) dials.out;
  faults = dials.faults;
}
