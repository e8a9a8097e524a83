-- What contracts see of links in memory, which a dialer or a door gives.
use Rattle.std.specs.Prelude.{◌≡◌, ℕ, List, [], ◌∷◌, Option, Some, None, Result, Ok, IfOk}
use Rattle.fault_counts.specs.Calls.{Calls}
use Rattle.fault_counts.specs.declared.Failed.{Failed}
use Rattle.fault_counts.specs.declared.schedule.Outcome.{Outcome}
use Rattle.fault_counts.specs.declared.schedule.Outcome.TheVariants.{Works, Fails, Stalls}
use Rattle.dialers.specs.Dials.{Dials}

-- The calls for a link, the links that are to come and those that were given back, how many are
-- out, and how many calls failed.
pub record LinksState (L : Type 0) : Type 0 where
  pub calls : Calls
  pub coming : List L
  pub returned : List L
  pub out : ℕ
  pub faults : ℕ

-- What they tell.
abbrev pub dials_of : {L : Type 0} → LinksState L → Dials L
dials_of links = record {
  coming = Some links.coming;
  returned = Some links.returned;
  out = Some links.out;
  faults = links.faults;
}

-- A dialer's call that works gives a link where one is left. Every other call fails.
abbrev pub EndsConnect : {L : Type 0} → Outcome → List L → Result L Failed → Type 0
EndsConnect Works [] result = IfOk result (λ link. ⊥)
EndsConnect Works (first ∷ rest) result = result ≡ Ok first
EndsConnect Fails coming result = IfOk result (λ link. ⊥)
EndsConnect Stalls coming result = IfOk result (λ link. ⊥)

-- A door's call that works gives the first link that is to come, or tells that there is none. Every
-- other call fails.
abbrev pub EndsAccept : {L : Type 0} → Outcome → List L → Result (Option L) Failed → Type 0
EndsAccept Works [] result = result ≡ Ok None
EndsAccept Works (first ∷ rest) result = result ≡ Ok (Some first)
EndsAccept Fails coming result = IfOk result (λ _. ⊥)
EndsAccept Stalls coming result = IfOk result (λ _. ⊥)
