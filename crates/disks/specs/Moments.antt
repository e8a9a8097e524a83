-- The moments of a disk, one before and one after each of its calls that changed it, and what
-- crashes may have left.
use Rattle.std.specs.Prelude.{◌≡◌, ◌⊎◌, ℕ, ◌≤◌, List, [], ◌∷◌, ◌++◌, length, Option, None, Some}
use Rattle.disks.specs.Parts.{Part, Parts, Image, MayLeave, with_part}

-- How the parts stand now, and how they stood at each moment before, the newest first.
pub record Told : Type 0 where
  pub now : Parts
  pub past : List Parts

-- The number of this moment.
abbrev pub moment : Told → ℕ
moment told = length told.past

abbrev pub states : Told → List Parts
states told = told.now ∷ told.past

-- The next moment, at which one part stands otherwise.
abbrev pub after : Told → ℕ → Part → Told
after told number part = record {
  now = with_part told.now number part;
  past = told.now ∷ told.past;
}

-- A crash at one of these moments that isn't before moment t may leave this.
abbrev pub LeftBy : ℕ → List Parts → Image → Type 0
LeftBy t [] image = ⊥
LeftBy t (parts ∷ past) image = ((t ≤ length past) × MayLeave parts image) ⊎ LeftBy t past image

-- A crash at some moment since moment t may have left this.
abbrev pub LeftSince : ℕ → Told → Image → Type 0
LeftSince t told image = LeftBy t (states told) image

-- The moments of the new state are those of the old one, and maybe later ones.
pub record GoesOn (old new : Told) : Type 0 where
  pub later : List Parts
  pub all : states new ≡ later ++ states old

-- At each moment from the old one to the new, each image has P. A disk that tells nothing goes on
-- telling nothing.
abbrev pub AtEachMoment : Option Told → Option Told → (Image → Type 0) → Type 0
AtEachMoment None new P = new ≡ None
AtEachMoment (Some old) None P = ⊥
AtEachMoment (Some old) (Some new) P =
    GoesOn old new × ((image : Image) → LeftSince (moment old) new image → P image)
