-- What is asked of each text of a configuration.
use Rattle.std.specs.Prelude.{ℕ, Bool, true, false, not, ◌&&◌, ◌||◌, ◌==◌, nat_le, List, [], ◌∷◌, length, take, drop, map, Option, Some, None, is_some, is_none, is_ok, codes, if◌then◌else◌}
use Rattle.std.specs.List.{list_all}
use Rattle.std.specs.Char.{is_ascii_lowercase, is_ascii_digit}
use Rattle.std.specs.Str.{bytes_eq}
use Rattle.hex.specs.Hex.{decode_of}
use Rattle.names_realms.specs.Realms.{realm_fault}
use Rattle.policy_tables.specs.declared.tables.PolicyTables.{PolicyTables}
use Rattle.policy_checks.specs.declared.texts.TextKind.{TextKind}
use Rattle.policy_checks.specs.declared.texts.TextKind.TheVariants.{Secret, UserName, Token, GroupName, Member, RoleName, Permission, RealmName, Extended, BoundRole, Principal}
use Rattle.policy_checks.specs.declared.texts.Check.{Check}
use Rattle.policy_checks.specs.declared.texts.Check.TheVariants.{Form, Roles, Realms, Principals}
use Rattle.policy_checks.specs.Index.{IsIndexOf, place_of}
use Rattle.policy_checks.specs.Permissions.{permission_of}

-- the names in the tables
abbrev pub user_names : PolicyTables → List (List ℕ)
user_names t = map (λ u. u.name) t.users

abbrev pub group_names : PolicyTables → List (List ℕ)
group_names t = map (λ g. g.name) t.groups

abbrev pub role_names : PolicyTables → List (List ℕ)
role_names t = map (λ r. r.name) t.roles

abbrev pub realm_names : PolicyTables → List (List ℕ)
realm_names t = map (λ r. r.name) t.realms

-- the indexes have the places of the names in the tables
pub record IsIndexed (users groups roles realms : List (List ℕ × ℕ))
    (t : PolicyTables) : Type 0 where
  pub users_are : IsIndexOf users (user_names t)
  pub groups_are : IsIndexOf groups (group_names t)
  pub roles_are : IsIndexOf roles (role_names t)
  pub realms_are : IsIndexOf realms (realm_names t)

-- the name is one of these
abbrev pub is_there : List ℕ → List (List ℕ) → Bool
is_there name names = is_some (place_of name names)

-- a lower-case letter, a digit or one of `_ - .`
abbrev pub may_follow_in_name : ℕ → Bool
may_follow_in_name b = is_ascii_lowercase b || is_ascii_digit b || b == 95 || b == 45 || b == 46

-- a user's, a group's or a role's name: a lower-case letter, then up to 63 bytes that may follow
abbrev pub is_name : List ℕ → Bool
is_name [] = false
is_name (b ∷ bs) = is_ascii_lowercase b && nat_le (length bs) 63 && list_all may_follow_in_name bs

-- from `!` to `~`
abbrev pub is_visible : ℕ → Bool
is_visible b = nat_le 0x21 b && nat_le b 0x7E

-- a token: 1 to 256 visible bytes
abbrev pub is_token : List ℕ → Bool
is_token text = nat_le 1 (length text) && nat_le (length text) 256 && list_all is_visible text

-- the hex text of some bytes, in either case
unfoldable pub is_hex_text : List ℕ → Bool
is_hex_text text = is_ok (decode_of text)

-- two digits for each of 1 to 64 bytes
abbrev pub has_secret_length : List ℕ → Bool
has_secret_length text = nat_le 2 (length text) && nat_le (length text) 128

-- a secret: the hex text of 1 to 64 bytes
abbrev pub is_secret : List ℕ → Bool
is_secret text = has_secret_length text && is_hex_text text

-- a realm
unfoldable pub is_realm_name : List ℕ → Bool
is_realm_name text = is_none (realm_fault text)

-- the text has the form that its kind asks for; of references to names none is asked for
abbrev pub has_form : TextKind → List ℕ → Bool
has_form Secret text = is_secret text
has_form UserName text = is_name text
has_form Token text = is_token text
has_form GroupName text = is_name text
has_form Member text = true
has_form RoleName text = is_name text
has_form Permission text = is_some (permission_of text)
has_form RealmName text = is_realm_name text
has_form Extended text = true
has_form BoundRole text = true
has_form Principal text = true

-- what stands behind a front
abbrev pub behind : List ℕ → List ℕ → Option (List ℕ)
behind front text =
    if bytes_eq (take (length front) text) front then Some (drop (length front) text) else None

-- `user:` and a user, or `group:` and a group
abbrev pub is_one_of : Option (List ℕ) → List (List ℕ) → Bool → Bool
is_one_of None names otherwise = otherwise
is_one_of (Some name) names otherwise = is_there name names

abbrev pub is_principal : PolicyTables → List ℕ → Bool
is_principal t text =
    is_one_of (behind (codes "user:") text) (user_names t)
    (is_one_of (behind (codes "group:") text) (group_names t) false)

-- whether a text of a kind isn't what the check asks for
abbrev pub is_faulty : PolicyTables → Check → TextKind → List ℕ → Bool
is_faulty t Form kind text = not (has_form kind text)
is_faulty t Roles BoundRole text = not (is_there text (role_names t))
is_faulty t Realms Extended text = not (is_there text (realm_names t))
is_faulty t Principals Member text = not (is_there text (user_names t))
is_faulty t Principals Principal text = not (is_principal t text)
is_faulty t _ _ text = false
