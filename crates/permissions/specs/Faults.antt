-- The faults of a configuration, and those of its tables, in the order in which they are looked
-- for.
use Rattle.std.specs.Prelude.{◌≡◌, ℕ, List, [], Option, Some, None, option_map, codes, nat_lt, if◌then◌else◌}
use Rattle.std.specs.Option.{option_or}
use Rattle.policy_tables.specs.declared.findings.Finding.{Finding}
use Rattle.permissions.specs.declared.faults.PolicyFault.{PolicyFault}
use Rattle.permissions.specs.declared.faults.PolicyFault.TheVariants.{NotToml, BadName, UnknownRole, UnknownRealm, RealmCycle, TwoOwners, TooMany, BadShape, UnknownPrincipal, Memory}
use Rattle.policy_tables.specs.declared.tables.PolicyTables.{PolicyTables}
use Rattle.policy_checks.specs.declared.texts.Check.{Check}
use Rattle.policy_checks.specs.declared.texts.Check.TheVariants.{Form, Roles, Realms, Principals}
use Rattle.policy_tables.specs.Findings.{least_of}
use Rattle.policy_tables.specs.Entries.{entries}
use Rattle.policy_checks.specs.Owners.{repeated}
use Rattle.policy_checks.specs.Spots.{failing, all_spots}
use Rattle.permissions.specs.Cycle.{HasNoCycle}

abbrev pub fault_number : PolicyFault → ℕ
fault_number NotToml = 1
fault_number (BadName at) = 2
fault_number (UnknownRole name) = 3
fault_number (UnknownRealm name) = 4
fault_number (RealmCycle name) = 5
fault_number (TwoOwners token) = 6
fault_number (TooMany count) = 7
fault_number (BadShape at) = 8
fault_number (UnknownPrincipal name) = 9
fault_number Memory = 0

abbrev pub fault_name : PolicyFault → List ℕ
fault_name NotToml = codes "NotToml"
fault_name (BadName at) = codes "BadName"
fault_name (UnknownRole name) = codes "UnknownRole"
fault_name (UnknownRealm name) = codes "UnknownRealm"
fault_name (RealmCycle name) = codes "RealmCycle"
fault_name (TwoOwners token) = codes "TwoOwners"
fault_name (TooMany count) = codes "TooMany"
fault_name (BadShape at) = codes "BadShape"
fault_name (UnknownPrincipal name) = codes "UnknownPrincipal"
fault_name Memory = codes "Memory"

abbrev pub most_entries : ℕ
most_entries = 65536

-- too many entries and bindings
abbrev pub entries_fault : PolicyTables → Option PolicyFault
entries_fault t = if nat_lt most_entries (entries t) then Some (TooMany (entries t)) else None

-- what a check says of its least finding
abbrev pub check_fault : Check → Finding → PolicyFault
check_fault Form f = BadName f.path
check_fault Roles f = UnknownRole f.text
check_fault Realms f = UnknownRealm f.text
check_fault Principals f = UnknownPrincipal f.text

unfoldable pub checked : PolicyTables → Check → Option PolicyFault
checked t check = option_map (check_fault check) (least_of (failing t check (all_spots t)))

-- the first fault in the tables' texts: their number, their forms, then the names that aren't there
abbrev pub text_fault : PolicyTables → Option PolicyFault
text_fault t =
    option_or (entries_fault t)
    (option_or (checked t Form)
    (option_or (checked t Roles) (option_or (checked t Realms) (checked t Principals))))

-- the least token that two users have
unfoldable pub owners_fault : PolicyTables → Option PolicyFault
owners_fault t = option_map (λ f. TwoOwners f.path) (least_of (repeated [] t.users))

-- tables without a fault
pub record IsSound (t : PolicyTables) : Type 0 where
  pub texts : text_fault t ≡ None
  pub no_cycle : HasNoCycle t
  pub owners : owners_fault t ≡ None
