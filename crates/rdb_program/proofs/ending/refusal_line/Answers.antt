use Rattle.rdb_program.proofs.LineLaws.{not_toml_line, bad_name_line, unknown_role_line, unknown_realm_line, realm_cycle_line, two_owners_line, too_many_line, bad_shape_line, unknown_principal_line, no_memory_line}
use Rattle.rdb_program.proofs.ending.refusal_line.Goals as goal

pub returns-in-NotToml : goal.returns-in-NotToml
returns-in-NotToml c = rw c.in-NotToml.is not_toml_line

pub returns-in-BadName : goal.returns-in-BadName
returns-in-BadName c = rw c.in-BadName.is (bad_name_line c.in-BadName.at)

pub returns-in-UnknownRole : goal.returns-in-UnknownRole
returns-in-UnknownRole c = rw c.in-UnknownRole.is (unknown_role_line c.in-UnknownRole.name)

pub returns-in-UnknownRealm : goal.returns-in-UnknownRealm
returns-in-UnknownRealm c = rw c.in-UnknownRealm.is (unknown_realm_line c.in-UnknownRealm.name)

pub returns-in-RealmCycle : goal.returns-in-RealmCycle
returns-in-RealmCycle c = rw c.in-RealmCycle.is (realm_cycle_line c.in-RealmCycle.name)

pub returns-in-TwoOwners : goal.returns-in-TwoOwners
returns-in-TwoOwners c = rw c.in-TwoOwners.is (two_owners_line c.in-TwoOwners.token)

pub returns-in-TooMany : goal.returns-in-TooMany
returns-in-TooMany c = rw c.in-TooMany.is (too_many_line c.in-TooMany.count)

pub returns-in-BadShape : goal.returns-in-BadShape
returns-in-BadShape c = rw c.in-BadShape.is (bad_shape_line c.in-BadShape.at)

pub returns-in-UnknownPrincipal : goal.returns-in-UnknownPrincipal
returns-in-UnknownPrincipal c = rw c.in-UnknownPrincipal.is (unknown_principal_line c.in-UnknownPrincipal.name)

pub returns-in-Memory : goal.returns-in-Memory
returns-in-Memory c = rw c.in-Memory.is no_memory_line
