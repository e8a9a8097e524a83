-- What each call of a disk answers, and what it does to the disk.
use Rattle.std.specs.Prelude.{◌≡◌, ◌⊎◌, ℕ, ◌+◌, ◌<◌, ◌≤◌, List, length, take, drop, Option, None, Some, Result, Ok, Err}
use Rattle.disks.specs.Parts.{Part, MayLeave, as_read, part_of, all_synced, written_over, write_begun, cut_begun}
use Rattle.disks.specs.Moments.{Told, after}

-- What is told of one part, where anything is told.
abbrev pub WhereTold : Option Told → ℕ → (Part → Type 0) → Type 0
WhereTold told number P = (t : Told) → told ≡ Some t → P (part_of t.now number)

-- A read gives the bytes from this place on, as many as it answers, and none only past the end or
-- into no room.
pub record Gives (bytes : List ℕ) (at : ℕ) (room : List ℕ) (count : ℕ) : Type 0 where
  pub inside : 0 < count → at + count ≤ length bytes
  pub given : take count room ≡ take count (drop at bytes)
  pub none : count ≡ 0 → 0 < length room → length bytes ≤ at

-- Where a call failed, nothing was begun, or it was begun, and a read may give other bytes.
abbrev pub MayHaveBegun : Told → ℕ → (List ℕ → Part) → Option Told → Type 0
MayHaveBegun t number begun new =
    (new ≡ Some t) ⊎ ((bytes : List ℕ) × (new ≡ Some (after t number (begun bytes))))

abbrev pub Writes : {E : Type 0} → ℕ → ℕ → List ℕ → Option Told → Result Unit E → Option Told
    → Type 0
Writes number at piece None result new = new ≡ None
Writes number at piece (Some t) (Ok done) new =
    let part = part_of t.now number in
    new ≡ Some (after t number
    (write_begun part at (length piece) (written_over part.bytes at piece)))
Writes number at piece (Some t) (Err e) new =
    MayHaveBegun t number (write_begun (part_of t.now number) at (length piece)) new

abbrev pub Cuts : {E : Type 0} → ℕ → ℕ → Option Told → Result Unit E → Option Told → Type 0
Cuts number end None result new = new ≡ None
Cuts number end (Some t) (Ok done) new =
    let part = part_of t.now number in
    new ≡ Some (after t number (cut_begun part end (take end part.bytes)))
Cuts number end (Some t) (Err e) new =
    MayHaveBegun t number (cut_begun (part_of t.now number) end) new

-- After a sync a crash leaves what a read gives. One that failed leaves the disk as it was.
abbrev pub Syncs : {E : Type 0} → ℕ → Option Told → Result Unit E → Option Told → Type 0
Syncs number None result new = new ≡ None
Syncs number (Some t) (Ok done) new =
    new ≡ Some (after t number (all_synced (part_of t.now number).bytes))
Syncs number (Some t) (Err e) new = new ≡ Some t

-- As it reads, the disk is one of its images.
abbrev pub ReadsAsImage : Option Told → Type 0
ReadsAsImage told = (t : Told) → told ≡ Some t → MayLeave t.now (as_read t.now)
