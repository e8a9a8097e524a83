-- Who may do what.
use Rattle.std.specs.Prelude.{◌≡◌, ◌⊎◌, ℕ, Bool, true, false, ◌&&◌, ◌||◌, ◌==◌, List, ◌++◌, take, Option, Some, None, codes}
use Rattle.std.specs.List.{list_any}
use Rattle.std.specs.Str.{bytes_eq}
use Rattle.policy_checks.specs.NamesRealms.Realms.{project_len}
use Rattle.policy_checks.specs.declared.permission.Permission.{Permission}
use Rattle.policy_tables.specs.declared.tables.Binding.{Binding}
use Rattle.policy_tables.specs.declared.tables.PolicyTables.{PolicyTables}
use Rattle.policy_checks.specs.Index.{place_of}
use Rattle.policy_checks.specs.Checks.{user_names, behind}
use Rattle.policy_checks.specs.Permissions.{permission_text, permission_of}
use Rattle.policy_checks.specs.Places.{role_at, group_at}
use Rattle.permissions.specs.Reach.{realm_at, Reaches}

-- the permission of a text is this one: of two permissions with the same text there are none
abbrev pub is_permission : Permission → Option Permission → Bool
is_permission p None = false
is_permission p (Some q) = bytes_eq (permission_text q) (permission_text p)

-- the role holds the permission
abbrev pub holds : PolicyTables → List ℕ → Permission → Bool
holds t role p =
    list_any (λ x. is_permission p (permission_of x)) (role_at role t.roles).permissions

-- the name is that of the user at this place
abbrev pub is_place : ℕ → Option ℕ → Bool
is_place u None = false
is_place u (Some n) = n == u

abbrev pub is_user : PolicyTables → ℕ → List ℕ → Bool
is_user t u name = is_place u (place_of name (user_names t))

-- the principal is the user, or a group with the user as a member
abbrev pub is_this_user : PolicyTables → ℕ → Option (List ℕ) → Bool
is_this_user t u None = false
is_this_user t u (Some name) = is_user t u name

abbrev pub has_this_user : PolicyTables → ℕ → Option (List ℕ) → Bool
has_this_user t u None = false
has_this_user t u (Some name) = list_any (is_user t u) (group_at name t.groups).members

abbrev pub gives : PolicyTables → ℕ → List ℕ → Bool
gives t u principal =
    is_this_user t u (behind (codes "user:") principal)
    || has_this_user t u (behind (codes "group:") principal)

-- the binding gives the user a role that holds the permission
abbrev pub binds_in : PolicyTables → ℕ → Permission → Binding → Bool
binds_in t u p b = list_any (gives t u) b.principals && holds t b.role p

-- a binding of the realm does
abbrev pub binds : PolicyTables → ℕ → Permission → List ℕ → Bool
binds t u p name = list_any (binds_in t u p) (realm_at name t.realms).bindings

-- the `@root` of a realm's project
abbrev pub root_of : List ℕ → List ℕ
root_of realm = take (project_len realm) realm ++ codes ":@root"

-- the realm, and what it reaches by `extends`; its project's `@root`, and what that reaches
abbrev pub IsAsked : PolicyTables → List ℕ → List ℕ → Type 0
IsAsked t realm name = Reaches t realm name ⊎ Reaches t (root_of realm) name

-- one of these realms binds a role that holds the permission to the user, or to a group with the
-- user as a member
pub record Allows (t : PolicyTables) (u : ℕ) (p : Permission) (realm : List ℕ) : Type 0 where
  pub name : List ℕ
  pub asked : IsAsked t realm name
  pub bound : binds t u p name ≡ true
