-- Pages of the artifacts of a parent, as a caller is shown them.
use Rattle.std.specs.Prelude.{◌≡◌, ◌↔◌, ◌<◌, ℕ, Bool, true, if◌then◌else◌, List, [], ◌∷◌, Option, Some, None, Contains, length, map, option_map, slice_get, take}
use Rattle.std.specs.Cmp.Lexicographic.{slice_cmp}
use Rattle.std.specs.Ordering.{nat_cmp, ordering_then}
use Rattle.std.specs.declared.cmp.Ordering.{Ordering}
use Rattle.page_tokens.specs.declared.kinds.ArtifactCursor.{ArtifactCursor}
use Rattle.artifacts.specs.declared.artifact.Artifact.{Artifact}
use Rattle.artifacts.specs.Laws.{last_id}
use Rattle.artifacts.specs.Artifacts.{keys_of}
use Rattle.lists.specs.Orders.{IsRising}
use Rattle.artifacts.specs.Orders.{id_at}
use Rattle.artifacts.specs.Pages.{IsListed}
use Rattle.artifact_replies.specs.ArtifactForms.Listed.{counted_size, query_of}
use Rattle.artifact_replies.specs.ArtifactForms.Tokens.{token_text}
use Rattle.artifact_replies.specs.ArtifactForms.declared.listed.ListArtifacts.{ListArtifacts}
use Rattle.artifact_pages.specs.declared.queries.ArtifactQuery.{ArtifactQuery}
use Rattle.artifact_replies.specs.Replies.{ArtifactsShown}

-- the page that a request asks for, of the artifacts that the row at a place holds
abbrev pub query_from : ℕ → ListArtifacts → ArtifactQuery
query_from holder q = record {
  holder = holder;
  parent = q.parent;
  query = query_of q;
  after = option_map (λ c. c.artifact) q.page_token;
  size = counted_size q.page_size;
}

-- the place of the last artifact of a page
abbrev pub last_place : List Artifact → List ℕ → ArtifactCursor
last_place rows places = record { artifact = last_id rows places }

-- where more are left behind the artifacts of a page, the token of the next one
abbrev pub next_token : List Artifact → List ℕ → List ℕ → Bool → Option (List ℕ)
next_token rows query [] more = None
next_token rows query (place ∷ places) more =
    if more then Some (token_text query (last_place rows (place ∷ places))) else None

-- places by the ids of the artifacts that stand there, and where these are the same by themselves
abbrev pub page_order : List Artifact → ℕ → ℕ → Ordering
page_order rows p q =
    ordering_then (slice_cmp nat_cmp (id_at (keys_of rows) p) (id_at (keys_of rows) q))
    (nat_cmp p q)

-- These are the places of just the artifacts that are still to be shown, in this order.
pub record IsWholeListing (rows : List Artifact) (asked : ArtifactQuery) (places : List ℕ)
    : Type 0 where
  pub rising : IsRising (page_order rows) places
  pub whole : (place : ℕ)
      → Contains places place ↔ IsListed rows asked.holder asked.parent asked.after place

-- This is the page that is asked: the first artifacts, so many, of those still to be shown,
-- in the order of their ids, and the token of the next page where more are left.
pub record IsShownPage (rows : List Artifact) (asked : ArtifactQuery) (shown : ArtifactsShown)
    : Type 0 where
  pub all : List ℕ
  pub listing : IsWholeListing rows asked all
  pub places : List ℕ
  pub first : places ≡ take asked.size all
  pub more : Bool
  pub left : (more ≡ true) ↔ (asked.size < length all)
  pub rows_are : map (slice_get rows) places ≡ map Some shown.rows
  pub next_is : shown.next ≡ next_token rows asked.query places more
