-- The artifacts of a parent, by id, and pages of them.
use Rattle.std.specs.Prelude.{◌≡◌, ◌↔◌, ◌<◌, ℕ, Bool, true, List, Option, Some, None, length, take, Contains}
use Rattle.std.specs.Ordering.{nat_cmp}
use Rattle.std.specs.Cmp.Lexicographic.{slice_cmp}
use Rattle.std.specs.declared.cmp.Ordering.TheVariants.{Less}
use Rattle.names_realms.specs.declared.parents.Parent.{Parent}
use Rattle.artifacts.specs.declared.artifact.Artifact.{Artifact}
use Rattle.artifacts.specs.Artifacts.{IsPlaceOf, keys_of, named}
use Rattle.lists.specs.Orders.{IsRising}
use Rattle.artifacts.specs.Orders.{id_at}

-- The id comes after the last one that was shown, where one was.
abbrev pub IsAfter : Option (List ℕ) → List ℕ → Type 0
IsAfter None id = Unit {0}
IsAfter (Some last) id = slice_cmp nat_cmp last id ≡ Less

-- At this place stands an artifact of the parent that the holder has, and its id is still to be
-- shown.
abbrev pub IsListed : List Artifact → ℕ → Parent → Option (List ℕ) → ℕ → Type 0
IsListed rows holder parent after place =
    (id : List ℕ) × IsPlaceOf rows (named holder (record { parent = parent; artifact = id })) place
    × IsAfter after id

-- These are the places of just the artifacts that are still to be shown, in the order of their ids.
pub record IsListing
    (rows : List Artifact) (holder : ℕ) (parent : Parent) (after : Option (List ℕ))
    (places : List ℕ) : Type 0 where
  pub rising : IsRising
      (λ p q. slice_cmp nat_cmp (id_at (keys_of rows) p) (id_at (keys_of rows) q)) places
  pub whole : (place : ℕ) → Contains places place ↔ IsListed rows holder parent after place

-- A page has the first ones of what is still to be shown, this many, and says whether there are
-- more.
pub record IsPage
    (rows : List Artifact) (holder : ℕ) (parent : Parent) (after : Option (List ℕ)) (size : ℕ)
    (places : List ℕ) (more : Bool) : Type 0 where
  pub all : List ℕ
  pub listing : IsListing rows holder parent after all
  pub first : places ≡ take size all
  pub left : (more ≡ true) ↔ (size < length all)
