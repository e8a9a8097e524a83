-- A part of a disk in memory, as contracts see it.
use Rattle.std.specs.Prelude.{ℕ, List}
use Rattle.disks.specs.Parts.{Part}
use Rattle.disks.specs.declared.range.Range.{Range}

-- The part of these lists.
abbrev pub part_with : List ℕ → List ℕ → ℕ → ℕ → List Range → Part
part_with bytes synced least greatest begun =
    record { bytes = bytes; synced = synced; least = least; greatest = greatest; begun = begun }
