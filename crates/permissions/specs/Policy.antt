-- A machine of the code: what a policy keeps beside its tables.
use Rattle.std.specs.Prelude.{◌≡◌, ℕ, List, Ok, map}
use Rattle.hex.specs.Hex.{decode_of}
use Rattle.policy_tables.specs.declared.tables.PolicyTables.{PolicyTables}
use Rattle.policy_checks.specs.Index.{IsIndexOf}
use Rattle.permissions.specs.Faults.{IsSound}

-- the secret's bytes, and the index of the users' tokens; and the tables have no fault
pub record IsKept (secret : List ℕ) (tokens : List (List ℕ × ℕ)) (t : PolicyTables) : Type 0 where
  pub secret_is : decode_of t.secret ≡ Ok secret
  pub tokens_are : IsIndexOf tokens (map (λ u. u.token) t.users)
  pub sound : IsSound t
