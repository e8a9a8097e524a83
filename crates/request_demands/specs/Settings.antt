-- What a service is set up with.
use Rattle.std.specs.Prelude.{◌≡◌, ℕ, true, List, [], map, All, Option, Some, None, slice_index_or}
use Rattle.std.specs.Result.{result_unwrap_or}
use Rattle.hex.specs.Hex.{decode_of}
use Rattle.policy_tables.specs.declared.tables.PolicyTables.{PolicyTables}
use Rattle.policy_checks.specs.Checks.{user_names, is_name}
use Rattle.policy_checks.specs.Index.{place_of}

-- The tables of its policy. Every step and history has them from the start.
pub record Settings : Type 0 where
  pub policy : PolicyTables

-- the secret under which update tokens are made
abbrev pub secret_of : Settings → List ℕ
secret_of s = result_unwrap_or (decode_of s.policy.secret) []

-- the place of the user who shows this bearer token
abbrev pub caller_of : Settings → Option (List ℕ) → Option ℕ
caller_of s None = None
caller_of s (Some token) = place_of token (map (λ u. u.token) s.policy.users)

-- the name of the user at this place
abbrev pub caller_name : Settings → ℕ → List ℕ
caller_name s caller = slice_index_or (user_names s.policy) caller []

-- The names of users are of their form. This is so of each policy that was read.
abbrev pub HasNames : Settings → Type 0
HasNames s = All (λ name. is_name name ≡ true) (user_names s.policy)
