use Rattle.disks.specs.PartLaws.{part_changed, other_stays, image_of_part, part_as_read}
use Rattle.disks.proofs.laws.parts_are_two.Goals as goal

pub returns : goal.returns
returns c = record {
  changed = part_changed;
  other = other_stays;
  image = image_of_part;
  as_read = part_as_read;
}
