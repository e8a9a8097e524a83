-- A disk of two parts: what a read gives of each, and what a crash may leave.
use Rattle.std.specs.Prelude.{◌≡◌, ℕ, zero, suc, ◌+◌, ◌<◌, ◌≤◌, min, max, Bool, false, ◌&&◌, nat_lt, nat_le, List, [], ◌∷◌, ◌++◌, length, take, drop, slice_index}
use Rattle.std.specs.List.{list_any}
use Rattle.disks.specs.declared.range.Range.{Range}

-- A part: what a read gives, its bytes after its last sync, the least and the greatest length since
-- then, and the ranges whose write was begun since then.
pub record Part : Type 0 where
  pub bytes : List ℕ
  pub synced : List ℕ
  pub least : ℕ
  pub greatest : ℕ
  pub begun : List Range

pub record Parts : Type 0 where
  pub first : Part
  pub second : Part

-- The bytes of both parts.
pub record Image : Type 0 where
  pub first : List ℕ
  pub second : List ℕ

-- A place lies in one of the ranges.
abbrev pub is_among : List Range → ℕ → Bool
is_among ranges k = list_any (λ r. nat_le r.at k && nat_lt k (r.at + r.count)) ranges

-- A crash may leave these bytes of a part: their number lies between the least and the greatest
-- length, and each place below the least length that no write was begun at holds what was synced.
pub record IsPartImage (part : Part) (image : List ℕ) : Type 0 where
  pub no_shorter : part.least ≤ length image
  pub no_longer : length image ≤ part.greatest
  pub kept : (k : ℕ) → k < part.least → is_among part.begun k ≡ false →
      slice_index image k ≡ slice_index part.synced k

-- A crash now may leave this.
pub record MayLeave (parts : Parts) (image : Image) : Type 0 where
  pub first : IsPartImage parts.first image.first
  pub second : IsPartImage parts.second image.second

-- What a read gives of both parts.
abbrev pub as_read : Parts → Image
as_read parts = record { first = parts.first.bytes; second = parts.second.bytes }

abbrev pub part_of : Parts → ℕ → Part
part_of parts zero = parts.first
part_of parts (suc n) = parts.second

-- The other of the two parts.
abbrev pub other_part : ℕ → ℕ
other_part zero = 1
other_part (suc n) = 0

-- What an image has of a part.
abbrev pub image_of : Image → ℕ → List ℕ
image_of image zero = image.first
image_of image (suc n) = image.second

-- The parts with another one in this place.
abbrev pub with_part : Parts → ℕ → Part → Parts
with_part parts zero part = record parts { first = part }
with_part parts (suc n) part = record parts { second = part }

-- The whole part is synced.
abbrev pub all_synced : List ℕ → Part
all_synced bytes = record {
  bytes = bytes;
  synced = bytes;
  least = length bytes;
  greatest = length bytes;
  begun = [];
}

-- These bytes written over what was there, from a place on.
abbrev pub written_over : List ℕ → ℕ → List ℕ → List ℕ
written_over bytes at piece = take at bytes ++ piece ++ drop (at + length piece) bytes

-- A write of so many bytes was begun, and this is what a read gives.
abbrev pub write_begun : Part → ℕ → ℕ → List ℕ → Part
write_begun part at count bytes = record {
  bytes = bytes;
  synced = part.synced;
  least = part.least;
  greatest = max part.greatest (at + count);
  begun = record { at = at; count = count } ∷ part.begun;
}

-- A cut was begun, and this is what a read gives.
abbrev pub cut_begun : Part → ℕ → List ℕ → Part
cut_begun part end bytes = record {
  bytes = bytes;
  synced = part.synced;
  least = min part.least end;
  greatest = part.greatest;
  begun = part.begun;
}
