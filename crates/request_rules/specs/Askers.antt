-- The code's own words: what was found of a caller's rights before they are asked.
use Rattle.std.specs.Prelude.{◌≡◌, ◌<◌, ℕ, List, [], ◌++◌, length, nat_le, if◌then◌else◌}
use Rattle.std.specs.List.{All, flat_map}
use Rattle.policy_checks.specs.declared.permission.Permission.{Permission}
use Rattle.policy_tables.specs.declared.tables.PolicyTables.{PolicyTables}
use Rattle.permissions.specs.Granting.{Granting}
use Rattle.request_rules.specs.declared.judging.Situation.{Situation}
use Rattle.request_demands.specs.declared.grants.Grant.{Grant}
use Rattle.request_rules.specs.declared.rights.Asker.{Asker}
use Rattle.request_demands.specs.Demands.{Demand}
use Rattle.request_demands.specs.Grants.{permissions_of}
use Rattle.request_rules.specs.Locating.{located}
use Rattle.request_rules.specs.Breaches.{held_by}

-- the permissions that are asked in the realms of these invocations, where they are more than
-- eight
abbrev pub asked_of : List (List ℕ) → List Grant → List Permission
asked_of ids grants = if nat_le (length ids) 8 then [] else flat_map permissions_of grants

-- The permissions of which a demand asks often.
abbrev pub asked_often : Demand → List Permission
asked_often d = asked_of d.named d.of_named ++ asked_of d.included d.of_included

-- What was found is of this caller, by this policy.
pub record IsHeldBy (policy : PolicyTables) (caller : ℕ) (found : Granting) : Type 0 where
  pub policy_is : found.policy ≡ policy
  pub caller_is : found.caller ≡ caller

-- The caller is there, and what was found is of this one.
pub record IsAsker (asker : Asker) : Type 0 where
  pub there : asker.caller < length asker.policy.now.users
  pub held : All (IsHeldBy asker.policy.now asker.caller) asker.holdings.now

-- A call of this caller that demands this can be judged here.
pub record MayJudge (x : Situation) (caller : ℕ) (d : Demand) : Type 0 where
  pub there : caller < length x.policy.now.users
  pub held : All (IsHeldBy x.policy.now caller) x.holdings.now
  pub located : x.located.now ≡ located x.table.now.rows (held_by x) d
