-- What is granted to a caller: a permission, under these tables.
use Rattle.std.specs.Prelude.{ℕ}
use Rattle.policy_checks.specs.declared.permission.Permission.{Permission}
use Rattle.policy_tables.specs.declared.tables.PolicyTables.{PolicyTables}

pub record Granting : Type 0 where
  pub policy : PolicyTables
  pub caller : ℕ
  pub permission : Permission
