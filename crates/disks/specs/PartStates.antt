-- A part of a disk in memory, as contracts see it.
use Rattle.disks.specs.Parts.{Part}
use Rattle.disks.specs.States.{part_with}
use Rattle.disks.specs.declared.part_state.PartState.{PartState}

abbrev pub state : PartState → Part
state p = part_with p.bytes.items p.synced.items p.least p.greatest p.begun.items
