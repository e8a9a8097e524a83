-- Tokens that two users have.
use Rattle.std.specs.Prelude.{ℕ, List, [], ◌∷◌, ◌++◌, if◌then◌else◌}
use Rattle.policy_tables.specs.declared.findings.Finding.{Finding}
use Rattle.policy_tables.specs.declared.tables.User.{User}
use Rattle.policy_tables.specs.Findings.{at}
use Rattle.policy_checks.specs.Checks.{is_there}

-- each token that a user before has too, where users before have these
abbrev pub repeated : List (List ℕ) → List User → List Finding
repeated seen [] = []
repeated seen (u ∷ us) =
    (if is_there u.token seen then at u.token ∷ [] else []) ++ repeated (seen ++ u.token ∷ []) us
