-- What a caller is to have in a realm.
use Rattle.std.specs.Prelude.{◌⊎◌, ℕ, List, [], ◌∷◌}
use Rattle.policy_checks.specs.declared.permission.Permission.{Permission}
use Rattle.policy_tables.specs.declared.tables.PolicyTables.{PolicyTables}
use Rattle.permissions.specs.Allows.{Allows}
use Rattle.request_demands.specs.declared.grants.Grant.{Grant}
use Rattle.request_demands.specs.declared.grants.Grant.TheVariants.{One, Either}

-- The caller has it in a realm: the permission, or one of the two.
abbrev pub Has : PolicyTables → ℕ → Grant → List ℕ → Type 0
Has policy caller (One permission) realm = Allows policy caller permission realm
Has policy caller (Either first second) realm =
    Allows policy caller first realm ⊎ Allows policy caller second realm

-- the permission that is named where the caller lacks it
abbrev pub named_by : Grant → Permission
named_by (One permission) = permission
named_by (Either first second) = second

-- the permissions that are asked for it
abbrev pub permissions_of : Grant → List Permission
permissions_of (One permission) = permission ∷ []
permissions_of (Either first second) = first ∷ second ∷ []
