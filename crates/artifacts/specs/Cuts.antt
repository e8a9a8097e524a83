-- The code's own words for where the artifacts of a parent begin and end among those of a holder.
use Rattle.std.specs.Prelude.{◌≡◌, ℕ, Bool, true, false, List, Option, Some, None, Contains}
use Rattle.std.specs.Ordering.{nat_cmp, is_le}
use Rattle.std.specs.Cmp.Lexicographic.{slice_cmp}
use Rattle.std.specs.declared.cmp.Ordering.{Ordering}
use Rattle.std.specs.declared.cmp.Ordering.TheVariants.{Less, Equal, Greater}
use Rattle.names_realms.specs.declared.parents.Parent.{Parent}
use Rattle.artifacts.specs.Artifacts.{Key}
use Rattle.artifacts.specs.Orders.{id_at, key_at, parent_at, parent_order}

-- the id was shown already
abbrev pub is_shown : Option (List ℕ) → List ℕ → Bool
is_shown None id = false
is_shown (Some last) id = is_le (slice_cmp nat_cmp id last)

abbrev pub every_id : List ℕ → Bool
every_id id = true

-- by how a parent compares with another one; this where it is the same
abbrev pub before_at : Ordering → Bool → Bool
before_at Less same = true
before_at Equal same = same
before_at Greater same = false

-- the artifact at a place stands before those of a parent, or among them with an id like this
abbrev pub stands_before : (List ℕ → Bool) → List Key → Parent → ℕ → Bool
stands_before front keys parent place =
    before_at (parent_order (parent_at keys place) parent) (front (id_at keys place))

-- what stands at these places has one holder
abbrev pub HaveOneHolder : List Key → List ℕ → Type 0
HaveOneHolder keys places =
    (p q : ℕ) → Contains places p → Contains places q
    → (key_at keys p).holder ≡ (key_at keys q).holder
