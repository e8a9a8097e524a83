-- A machine of the code: what realms grant, by places.
use Rattle.std.specs.Prelude.{◌≡◌, ◌⊎◌, ◌<◌, ℕ, Bool, true, false, ◌&&◌, ◌||◌, List, [], length, map, slice_index_or, unwrap_or}
use Rattle.std.specs.List.{list_any}
use Rattle.std.specs.Ordering.{nat_cmp}
use Rattle.std.specs.BTreeMap.{get}
use Rattle.std.specs.BTreeSet.{contains}
use Rattle.policy_checks.specs.declared.permission.Permission.{Permission}
use Rattle.policy_checks.specs.Permissions.{permission_of}
use Rattle.policy_checks.specs.Places.{role_texts_at, members_at_place}
use Rattle.permissions.specs.declared.grants.GroupGrant.{GroupGrant}
use Rattle.permissions.specs.declared.grants.Grants.{Grants}
use Rattle.permissions.specs.declared.members.Members.{Members}
use Rattle.policy_tables.specs.declared.tables.Binding.{Binding}
use Rattle.policy_tables.specs.declared.tables.Group.{Group}
use Rattle.policy_tables.specs.declared.tables.Role.{Role}
use Rattle.policy_tables.specs.declared.tables.RealmTable.{RealmTable}
use Rattle.policy_tables.specs.declared.tables.PolicyTables.{PolicyTables}
use Rattle.permissions.specs.Allows.{is_permission, is_user, binds_in, binds}
use Rattle.permissions.specs.Masks.{has_bit}
use Rattle.permissions.specs.Graph.{ReachesOn, graph_of}
use Rattle.permissions.specs.Ranks.{place_at}
use Rattle.permissions.specs.Reach.{Reaches}

-- the bits of the roles before this one are those of their permissions
pub record AreMasksBefore (roles : List Role) (n : ℕ) (masks : List ℕ) : Type 0 where
  pub count : length masks ≡ n
  pub same : (place : ℕ) (p : Permission) → place < n
      → has_bit (slice_index_or masks place 0) p
      ≡ list_any (λ x. is_permission p (permission_of x)) (role_texts_at roles place)

abbrev pub AreMasks : PolicyTables → List ℕ → Type 0
AreMasks t masks = AreMasksBefore t.roles (length t.roles) masks

-- a grant to a group gives the permission to the user
abbrev pub gives_member : PolicyTables → ℕ → Permission → GroupGrant → Bool
gives_member t u p g =
    list_any (is_user t u) (members_at_place t.groups g.group) && has_bit g.mask p

-- grants give the permission to the user
abbrev pub granted : PolicyTables → ℕ → Permission → Grants → Bool
granted t u p g =
    has_bit (unwrap_or (get nat_cmp g.users u) 0) p || list_any (gives_member t u p) g.groups.items

-- the grants at a rank give the permission to the user
abbrev pub granted_at : PolicyTables → ℕ → Permission → List Grants → ℕ → Bool
granted_at t u p grants rank = slice_index_or (map (granted t u p) grants) rank false

-- the bindings of a place
abbrev pub bindings_at : List RealmTable → ℕ → List Binding
bindings_at realms place = slice_index_or (map (λ r. r.bindings) realms) place []

-- the bindings of a place give the permission to the user
abbrev pub bound_at : PolicyTables → List RealmTable → ℕ → Permission → ℕ → Bool
bound_at t realms u p place = list_any (binds_in t u p) (bindings_at realms place)

-- the grants at each rank before this one are those of its place's bindings
pub record AreGrants (t : PolicyTables) (places : List ℕ) (n : ℕ)
    (grants : List Grants) : Type 0 where
  pub count : length grants ≡ n
  pub same : (rank u : ℕ) (p : Permission) → rank < n
      → granted_at t u p grants rank ≡ bound_at t t.realms u p (place_at places rank)

-- the user is a member of the group at a place
abbrev pub is_member : List Members → ℕ → ℕ → Bool
is_member members group u =
    slice_index_or (map (λ m. contains nat_cmp m.places u) members) group false

-- the members of each group before this one are those that it names
pub record AreMembers (t : PolicyTables) (groups : List Group) (n : ℕ)
    (members : List Members) : Type 0 where
  pub count : length members ≡ n
  pub same : (group u : ℕ) → group < n
      → is_member members group u ≡ list_any (is_user t u) (members_at_place groups group)

-- a place binds the user, or one that is reached from it does
pub record IsBoundFrom (t : PolicyTables) (place u : ℕ) (p : Permission) : Type 0 where
  pub to : ℕ
  pub reached : (place ≡ to) ⊎ ReachesOn (graph_of t) place to
  pub bound : bound_at t t.realms u p to ≡ true

-- a realm binds the user, or one that is reached from it does
pub record IsBoundByName (t : PolicyTables) (name : List ℕ) (u : ℕ) (p : Permission) : Type 0 where
  pub to : List ℕ
  pub reached : Reaches t name to
  pub bound : binds t u p to ≡ true
