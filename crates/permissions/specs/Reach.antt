-- Which realms are reached from which.
use Rattle.std.specs.Prelude.{◌≡◌, ℕ, true, List, [], ◌∷◌, if◌then◌else◌}
use Rattle.std.specs.Str.{bytes_eq}
use Rattle.policy_tables.specs.declared.tables.RealmTable.{RealmTable}
use Rattle.policy_tables.specs.declared.tables.PolicyTables.{PolicyTables}
use Rattle.policy_checks.specs.Checks.{is_there}

-- the realm of a name; one that isn't configured extends none, and has no bindings
abbrev pub realm_at : List ℕ → List RealmTable → RealmTable
realm_at name [] = record { name = name; extends = []; bindings = [] }
realm_at name (r ∷ rs) = if bytes_eq name r.name then r else realm_at name rs

-- the names of the realms that a realm extends
abbrev pub extended : PolicyTables → List ℕ → List (List ℕ)
extended t name = (realm_at name t.realms).extends

-- a walk from a realm over these, each of which the one before extends, the last of which is the
-- other
abbrev pub IsWalk : PolicyTables → List ℕ → List (List ℕ) → List ℕ → Type 0
IsWalk t from [] to = from ≡ to
IsWalk t from (x ∷ xs) to = (is_there x (extended t from) ≡ true) × IsWalk t x xs to

-- a realm is reached from itself, and from each realm with a walk to it
pub record Reaches (t : PolicyTables) (from to : List ℕ) : Type 0 where
  pub path : List (List ℕ)
  pub walk : IsWalk t from path to

-- a realm is reached from itself in one step or more
pub record ReachesItself (t : PolicyTables) (name : List ℕ) : Type 0 where
  pub first : List ℕ
  pub others : List (List ℕ)
  pub walk : IsWalk t name (first ∷ others) name
