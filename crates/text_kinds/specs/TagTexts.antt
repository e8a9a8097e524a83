-- The key of a tag.
use Rattle.std.specs.Prelude.{ℕ, List, Option}
use Rattle.json_fields.specs.NameParts.Parts.{part_fault}
use Rattle.json_fields.specs.NameParts.declared.faults.NameFault.{NameFault}
use Rattle.json_fields.specs.NameParts.declared.parts.PartForm.TheVariants.{PairKey}

-- what is wrong with the key of a tag
abbrev pub key_fault : List ℕ → Option NameFault
key_fault text = part_fault PairKey text
