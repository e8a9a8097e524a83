-- What a change of one part is to that part and to the other one: the clauses of `parts_are_two`.
-- They stand here so that the proofs of other crates can cite them.
use Rattle.std.proofs.Common.{◌≡◌, ℕ, zero, suc, refl}
use Rattle.disks.specs.Parts.{Part, Parts, Image, IsPartImage, MayLeave, as_read, part_of, other_part, image_of, with_part}

pub part_changed : (parts : Parts) (number : ℕ) (part : Part) →
    part_of (with_part parts number part) number ≡ part
part_changed parts zero part = refl
part_changed parts (suc n) part = refl

pub other_stays : (parts : Parts) (number : ℕ) (part : Part) →
    part_of (with_part parts number part) (other_part number) ≡ part_of parts (other_part number)
other_stays parts zero part = refl
other_stays parts (suc n) part = refl

pub image_of_part : (parts : Parts) (number : ℕ) (image : Image) → MayLeave parts image →
    IsPartImage (part_of parts number) (image_of image number)
image_of_part parts zero image may = may.first
image_of_part parts (suc n) image may = may.second

pub part_as_read : (parts : Parts) (number : ℕ) →
    image_of (as_read parts) number ≡ (part_of parts number).bytes
part_as_read parts zero = refl
part_as_read parts (suc n) = refl
