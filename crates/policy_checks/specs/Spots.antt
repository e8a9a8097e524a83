-- Each text of a configuration, with its kind and the path where it stands.
use Rattle.std.specs.Prelude.{ℕ, ◌+◌, List, [], ◌∷◌, ◌++◌, Option, fold, codes, if◌then◌else◌}
use Rattle.std.specs.Fmt.{decimal}
use Rattle.policy_tables.specs.declared.findings.Finding.{Finding}
use Rattle.policy_tables.specs.declared.tables.User.{User}
use Rattle.policy_tables.specs.declared.tables.Group.{Group}
use Rattle.policy_tables.specs.declared.tables.Role.{Role}
use Rattle.policy_tables.specs.declared.tables.Binding.{Binding}
use Rattle.policy_tables.specs.declared.tables.RealmTable.{RealmTable}
use Rattle.policy_tables.specs.declared.tables.PolicyTables.{PolicyTables}
use Rattle.policy_checks.specs.declared.texts.TextKind.{TextKind}
use Rattle.policy_checks.specs.declared.texts.TextKind.TheVariants as kind
use Rattle.policy_checks.specs.declared.texts.Check.{Check}
use Rattle.policy_tables.specs.Findings.{joined, lesser}
use Rattle.policy_checks.specs.Checks.{is_faulty}

-- a text of a kind at a path
pub record Spot : Type 0 where
  pub kind : TextKind
  pub found : Finding

abbrev pub spot : TextKind → List ℕ → List ℕ → Spot
spot kind path text = record { kind = kind; found = record { path = path; text = text } }

-- the texts of a list, from this place on
abbrev pub text_spots : TextKind → List ℕ → ℕ → List (List ℕ) → List Spot
text_spots kind path n [] = []
text_spots kind path n (x ∷ xs) =
    spot kind (joined path (decimal n)) x ∷ text_spots kind path (n + 1) xs

-- the texts of each of these, from this place on
abbrev pub spots_of : {A : Type 0} → (List ℕ → ℕ → A → List Spot) → List ℕ → ℕ → List A → List Spot
spots_of spots path n [] = []
spots_of spots path n (x ∷ xs) = spots path n x ++ spots_of spots path (n + 1) xs

abbrev pub user_spots : List ℕ → ℕ → User → List Spot
user_spots path n u =
    spot kind.UserName (joined path u.name) u.name
    ∷ spot kind.Token (joined (joined path u.name) (codes "token")) u.token ∷ []

abbrev pub group_spots : List ℕ → ℕ → Group → List Spot
group_spots path n g =
    spot kind.GroupName (joined path g.name) g.name
    ∷ text_spots kind.Member (joined (joined path g.name) (codes "members")) 0 g.members

abbrev pub role_spots : List ℕ → ℕ → Role → List Spot
role_spots path n r =
    spot kind.RoleName (joined path r.name) r.name
    ∷ text_spots kind.Permission (joined (joined path r.name) (codes "permissions")) 0 r.permissions

abbrev pub binding_spots : List ℕ → ℕ → Binding → List Spot
binding_spots path n b =
    spot kind.BoundRole (joined (joined path (decimal n)) (codes "role")) b.role
    ∷ text_spots kind.Principal
    (joined (joined path (decimal n)) (codes "principals")) 0 b.principals

abbrev pub realm_spots : List ℕ → ℕ → RealmTable → List Spot
realm_spots path n r =
    spot kind.RealmName (joined path r.name) r.name
    ∷ (text_spots kind.Extended (joined (joined path r.name) (codes "extends")) 0 r.extends
    ++ spots_of binding_spots (joined (joined path r.name) (codes "bindings")) 0 r.bindings)

-- each text of a configuration
abbrev pub all_spots : PolicyTables → List Spot
all_spots t =
    spot kind.Secret (codes "secret") t.secret
    ∷ (spots_of user_spots (codes "user") 0 t.users
    ++ (spots_of group_spots (codes "group") 0 t.groups
    ++ (spots_of role_spots (codes "role") 0 t.roles
    ++ spots_of realm_spots (codes "realm") 0 t.realms)))

-- each text that isn't what the check asks for
abbrev pub failing : PolicyTables → Check → List Spot → List Finding
failing t check [] = []
failing t check (s ∷ ss) =
    if is_faulty t check s.kind s.found.text then s.found ∷ failing t check ss
    else failing t check ss

-- the least finding with that of this text too, if it isn't what the check asks for
abbrev pub with_spot : PolicyTables → Check → Option Finding → Spot → Option Finding
with_spot t check least s =
    if is_faulty t check s.kind s.found.text then lesser least s.found else least

abbrev pub with_spots : PolicyTables → Check → Option Finding → List Spot → Option Finding
with_spots t check least spots = fold (with_spot t check) least spots
