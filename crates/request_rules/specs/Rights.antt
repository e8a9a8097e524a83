-- Which rights a demand takes, where invocations stand as they do.
use Rattle.std.specs.Prelude.{ℕ, List, [], ◌∷◌, ◌++◌, Option, Some, None, map}
use Rattle.invocations.specs.declared.invocation.Invocation.{Invocation}
use Rattle.request_demands.specs.declared.grants.Grant.{Grant}
use Rattle.request_demands.specs.Demands.{Demand}
use Rattle.request_rules.specs.Named.{places_in, row_at}

-- A right: what a caller is to have in a realm.
pub record Right : Type 0 where
  pub grant : Grant
  pub realm : List ℕ

abbrev pub right : Grant → List ℕ → Right
right grant realm = record { grant = grant; realm = realm }

-- each of these in a realm
abbrev pub rights_here : Option (List ℕ) → List Grant → List Right
rights_here None takes = []
rights_here (Some realm) takes = map (λ grant. right grant realm) takes

-- each of these in the realm of an invocation that is there
abbrev pub rights_of : Option Invocation → List Grant → List Right
rights_of None takes = []
rights_of (Some row) takes = map (λ grant. right grant row.realm) takes

-- each of these in the realm of each invocation at one of these places
abbrev pub rights_in : List Invocation → List Grant → List (Option ℕ) → List Right
rights_in rows takes [] = []
rights_in rows takes (place ∷ places) =
    rights_of (row_at rows place) takes ++ rights_in rows takes places

-- the rights that a demand takes, in the order in which they are asked
abbrev pub rights_taken : List Invocation → Demand → List Right
rights_taken rows d =
    rights_here d.realm d.takes
    ++ (rights_in rows d.of_named (places_in rows d.named)
    ++ rights_in rows d.of_included (places_in rows d.included))
