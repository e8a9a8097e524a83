-- Why no row can be added.
use Rattle.std.specs.Prelude.{◌≡◌, ℕ, ◌<◌, List, length}
use Rattle.invocations.specs.declared.invocation.Invocation.{Invocation}
use Rattle.invocations.specs.declared.faults.AddFault.{AddFault}
use Rattle.invocations.specs.declared.faults.AddFault.TheVariants.{Taken, Full, Memory}
use Rattle.invocations.specs.Rows.{HasId, IsPlaceOf}

-- A row with this id can be added: no row has the id, and there are fewer than 65,536 rows.
abbrev pub CanAdd : List Invocation → List ℕ → Type 0
CanAdd rows id = (¬ HasId rows id) × (length rows < 65_536)

-- A row has the id already, and stands at that place; or there are 65,536 rows, and none has the
-- id; or a row could be added, if there were memory.
abbrev pub IsAddFault : List Invocation → List ℕ → AddFault → Type 0
IsAddFault rows id (Taken place) = IsPlaceOf rows id place
IsAddFault rows id (Full count) = (¬ HasId rows id) × (length rows ≡ 65_536) × (count ≡ 65_536)
IsAddFault rows id Memory = CanAdd rows id
