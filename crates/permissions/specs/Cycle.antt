-- Realms that reach themselves.
use Rattle.std.specs.Prelude.{◌≡◌, ℕ, false, List}
use Rattle.std.specs.Ordering.{nat_cmp, is_lt}
use Rattle.std.specs.Cmp.Lexicographic.{slice_cmp}
use Rattle.policy_tables.specs.declared.tables.PolicyTables.{PolicyTables}
use Rattle.permissions.specs.Reach.{ReachesItself}

-- no realm reaches itself by `extends`
abbrev pub HasNoCycle : PolicyTables → Type 0
HasNoCycle t = (name : List ℕ) → ReachesItself t name → ⊥

-- the realm reaches itself, and none with a lesser name does
pub record IsLeastCycle (t : PolicyTables) (name : List ℕ) : Type 0 where
  pub itself : ReachesItself t name
  pub least : (other : List ℕ) → ReachesItself t other
      → is_lt (slice_cmp nat_cmp other name) ≡ false
