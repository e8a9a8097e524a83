use Rattle.std.proofs.Common.{◌≡◌, ℕ, List, drop, Option}
use Rattle.invocations.specs.declared.invocation.Invocation.{Invocation}
use Rattle.request_rules.specs.Broken.{IsMissing}
use Rattle.request_rules.specs.Named.{places_in}
use Rattle.request_demands.specs.Order.{FirstOf}
use Rattle.request_rules.proofs.locating.first_missing_of.Given as goal

-- the first of those to come is the first of all
abbrev pub invariant-loop-at : goal.invariant-loop-at
invariant-loop-at l =
    (rows : List Invocation) → l.places ≡ places_in rows l.ids → (found : Option (List ℕ))
    → FirstOf (IsMissing rows) (drop l.at l.ids) found
    → FirstOf (IsMissing rows) l.ids found
