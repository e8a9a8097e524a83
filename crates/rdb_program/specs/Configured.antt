-- What became of the configuration.
use Rattle.std.specs.Prelude.{◌≡◌, ℕ, ◌<◌, ◌≤◌, ◌⊎◌, List, length}
use Rattle.fault_counts.specs.Causes.{Rose}
use Rattle.outside.specs.Bytes.{Gave, IsEnd}
use Rattle.outside.specs.Ends.{Incoming}
use Rattle.policy_tables.specs.declared.tables.PolicyTables.{PolicyTables}
use Rattle.workload_runs.specs.PolicyReading.Reading.{IsPolicyOf, IsFirstFault}
use Rattle.permissions.specs.declared.faults.PolicyFault.{PolicyFault}
use Rattle.rdb_program.specs.declared.ending.Ending.{Ending}
use Rattle.rdb_program.specs.declared.ending.Ending.TheVariants.{WordsRefused, Shown, ConfigFault}
use Rattle.rdb_program.specs.declared.ending.Ending.TheVariants.{ConfigRefused, Unstarted, Unopened}
use Rattle.rdb_program.specs.declared.ending.Ending.TheVariants.{Counted, Served, DoorsServed, Loaded, Uploaded}

-- the most that is read of a configuration: one byte more than it may have
abbrev pub most_read : ℕ
most_read = 4194305

-- Its text was read to its end, no read failed, and it is the text of this policy.
pub record Accepts (before : Incoming) (tables : PolicyTables) (after : Incoming) : Type 0 where
  pub text : List ℕ
  pub gave : Gave before.left text after.left
  pub at_end : IsEnd after.left
  pub faults : after.faults ≡ before.faults
  pub policy : IsPolicyOf text tables

-- Its text was read to its end, or as far as a text is read, no read failed, and this is the text's
-- first fault.
pub record Refuses (before : Incoming) (fault : PolicyFault) (after : Incoming) : Type 0 where
  pub text : List ℕ
  pub gave : Gave before.left text after.left
  pub whole : IsEnd after.left ⊎ (length text ≡ most_read)
  pub faults : after.faults ≡ before.faults
  pub first : IsFirstFault text fault

-- A read of it failed before its end was reached, and behind that nothing was read.
pub record Fails (before after : Incoming) : Type 0 where
  pub text : List ℕ
  pub gave : Gave before.left text after.left
  pub short : length text < most_read
  pub ends : after.ends ≡ before.ends
  pub later : before.faults ≤ after.faults
  pub faults : Rose before.faults after.faults

-- Memory was wanting to read it, or for what it says. No read failed.
pub record Leaves (before after : Incoming) : Type 0 where
  pub text : List ℕ
  pub gave : Gave before.left text after.left
  pub bounded : length text ≤ most_read
  pub faults : after.faults ≡ before.faults

-- What was read of the configuration where it isn't served, by how the run ended.
abbrev pub IsUnserved : Ending → Incoming → Incoming → Type 0
IsUnserved ConfigFault before after = Fails before after
IsUnserved (ConfigRefused fault) before after = Refuses before fault after
IsUnserved Unstarted before after = Leaves before after
IsUnserved WordsRefused before after = ⊥
IsUnserved (Shown result) before after = ⊥
IsUnserved (Unopened fault) before after = ⊥
IsUnserved (Counted result) before after = ⊥
IsUnserved (Served ended) before after = ⊥
IsUnserved (DoorsServed ending) before after = ⊥
IsUnserved (Uploaded ending) before after = ⊥
IsUnserved (Loaded ending) before after = ⊥
