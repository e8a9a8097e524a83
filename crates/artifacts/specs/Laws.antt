-- Laws of tables that batches come into, and of pages.
use Rattle.std.specs.Prelude.{◌≡◌, ◌≢◌, ◌⊎◌, ◌<◌, ◌-◌, ℕ, Bool, true, false, List, [], ◌∷◌, ◌++◌, Option, Some, None, length, slice_get, slice_index_or}
use Rattle.std.specs.List.{All, flat_map}
use Rattle.names_realms.specs.declared.parents.Parent.{Parent}
use Rattle.artifacts.specs.declared.artifact.Artifact.{Artifact}
use Rattle.artifacts.specs.Artifacts.{HasItsHash, IsTable, keys_of}
use Rattle.artifacts.specs.declared.faults.ArtifactFault.{ArtifactFault}
use Rattle.artifacts.specs.declared.faults.ArtifactFault.TheVariants.{Memory}
use Rattle.artifacts.specs.Batches.{CanAdd, CanCome, IsBatchFault}
use Rattle.artifacts.specs.Orders.{id_at}
use Rattle.artifacts.specs.Pages.{IsListing, IsPage}
use Rattle.artifacts.specs.Requests.{DigestedState}

-- Rows that come in together, and their holder.
pub record Addition : Type 0 where
  pub holder : ℕ
  pub rows : List Artifact

-- The rows after these batches came in, one after the other.
abbrev pub after : List Artifact → List Addition → List Artifact
after rows [] = rows
after rows (batch ∷ batches) = after (rows ++ batch.rows) batches

-- Each batch can come in when those before it have.
abbrev pub CanAll : List Artifact → List Addition → Type 0
CanAll rows [] = Unit {0}
CanAll rows (batch ∷ batches) =
    All (λ row. row.holder ≡ batch.holder) batch.rows
    × All HasItsHash batch.rows
    × CanAdd rows batch.holder batch.rows
    × CanAll (rows ++ batch.rows) batches

-- A table that batches can come into, any number of them, is one after them: in a holder no two
-- rows have the same name, there are at most 100,000, and each has the hash of its contents.
abbrev pub StaysTable : Type 0
StaysTable =
    (rows : List Artifact) (batches : List Addition) → IsTable rows → CanAll rows batches
    → IsTable (after rows batches)

-- Rows stay at their places, whatever comes in.
abbrev pub RowsStay : Type 0
RowsStay =
    (rows : List Artifact) (batches : List Addition) (at : ℕ) (row : Artifact)
    → slice_get rows at ≡ Some row → slice_get (after rows batches) at ≡ Some row

-- What is to be shown of a parent, and in which order, is one list.
abbrev pub HasOneListing : Type 0
HasOneListing =
    (rows : List Artifact) (holder : ℕ) (parent : Parent) (after : Option (List ℕ))
    (places others : List ℕ) → IsListing rows holder parent after places
    → IsListing rows holder parent after others → places ≡ others

-- A page that was asked for, of this size.
pub record Answer : Type 0 where
  pub size : ℕ
  pub places : List ℕ
  pub more : Bool

-- The id that a page ends with.
abbrev pub last_id : List Artifact → List ℕ → List ℕ
last_id rows places = id_at (keys_of rows) (slice_index_or places (length places - 1) 0)

-- Pages of any sizes but 0, each asked for behind the id that the one before it ends with, up to
-- the first that says that there are no more.
abbrev pub AreFollowed :
    List Artifact → ℕ → Parent → Option (List ℕ) → List Answer → Type 0
AreFollowed rows holder parent after [] = ⊥
AreFollowed rows holder parent after (page ∷ []) =
    IsPage rows holder parent after page.size page.places page.more × (page.more ≡ false)
AreFollowed rows holder parent after (page ∷ next ∷ pages) =
    IsPage rows holder parent after page.size page.places page.more × (page.more ≡ true)
    × (0 < page.size)
    × AreFollowed rows holder parent (Some (last_id rows page.places)) (next ∷ pages)

abbrev pub places_of_page : Answer → List ℕ
places_of_page page = page.places

-- Such pages have together just the artifacts of the parent, each once, in the order of their ids.
abbrev pub PagesHaveAll : Type 0
PagesHaveAll =
    (rows : List Artifact) (holder : ℕ) (parent : Parent) (pages : List Answer)
    → AreFollowed rows holder parent None pages
    → IsListing rows holder parent None (flat_map places_of_page pages)

-- One fault at most is said of a batch. Want of memory is said where it can come in: so where it
-- can, no other fault is said.
abbrev pub OneBatchFault : Type 0
OneBatchFault =
    (rows : List Artifact) (holder : ℕ) (batch : DigestedState) (fault other : ArtifactFault)
    → IsBatchFault rows holder batch fault → IsBatchFault rows holder batch other
    → fault ≡ other

-- Each batch can come in, or some other fault is said of it.
abbrev pub FaultOrCanCome : Type 0
FaultOrCanCome =
    (rows : List Artifact) (holder : ℕ) (batch : DigestedState)
    → CanCome rows holder batch
    ⊎ ((fault : ArtifactFault) × (fault ≢ Memory) × IsBatchFault rows holder batch fault)
