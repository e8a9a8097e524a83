-- The steps of the journal's calls.
use Rattle.std.specs.Prelude.{◌≡◌, ℕ, List, ◌∷◌, ◌++◌, length, Option, None, Some, Result, Ok, Err}
use Rattle.disks.specs.Parts.{Image, IsPartImage, all_synced, image_of, other_part, part_of, written_over, write_begun}
use Rattle.disks.specs.Moments.{Told, after, AtEachMoment}
use Rattle.disks.specs.Calls.{MayHaveBegun, WhereTold}
use Rattle.result_journal.specs.Journals.{AtGate, begun_part, prepared}
use Rattle.result_journal.specs.declared.journal.Journal.{Journal}

-- A write to a part and a sync of it. Where one of them failed, the write was begun, or nothing
-- was.
abbrev pub WritesThrough : {E : Type 0} → ℕ → ℕ → List ℕ → Option Told → Result Unit E
    → Option Told → Type 0
WritesThrough part at piece None result new = new ≡ None
WritesThrough part at piece (Some t) (Ok done) new =
    let old = part_of t.now part in
    let bytes = written_over old.bytes at piece in
    new
    ≡ Some (after (after t part (write_begun old at (length piece) bytes)) part (all_synced bytes))
WritesThrough part at piece (Some t) (Err e) new =
    MayHaveBegun t part (write_begun (part_of t.now part) at (length piece)) new

-- What the image has of a part is one of the images of that part as it was.
abbrev pub PartAsIn : ℕ → Option Told → Image → Type 0
PartAsIn part old image = WhereTold old part (λ p. IsPartImage p (image_of image part))

-- A part stands as it did, and so it did at each moment between.
pub record PartStays (part : ℕ) (old new : Option Told) : Type 0 where
  pub still : (t u : Told) → old ≡ Some t → new ≡ Some u → part_of u.now part ≡ part_of t.now part
  pub moments : AtEachMoment old new (PartAsIn part old)

-- The part stays on which no opening begins.
abbrev pub OtherStays : Option Told → Option Told → Type 0
OtherStays = PartStays (other_part begun_part)

-- A list is these bytes, some byte, those bytes, and more.
pub record BeginsBut (list front back : List ℕ) : Type 0 where
  pub there : ℕ
  pub rest : List ℕ
  pub form : list ≡ front ++ there ∷ (back ++ rest)

-- The prepared record stands whole behind the gate.
abbrev pub IsStaged : {D : Type 0} → (D → Option Told) → Journal D → List (List ℕ) → Type 0
IsStaged told journal commands =
    WhereTold (told journal.disk) journal.part
    (λ p. AtGate p commands (prepared journal) journal.end)
