-- A machine of the code: how the least realm that reaches itself is looked for, by places.
use Rattle.std.specs.Prelude.{◌≡◌, ◌⊎◌, ◌<◌, ◌≤◌, ℕ, Bool, true, false, List, [], Option, Some, None, map, length, slice_index_or, count_by}
use Rattle.std.specs.Ordering.{nat_cmp, is_lt}
use Rattle.std.specs.Cmp.Lexicographic.{slice_cmp}
use Rattle.policy_tables.specs.declared.tables.RealmTable.{RealmTable}
use Rattle.permissions.specs.Graph.{has, edges, ReachesOn}

-- the label of a place
abbrev pub label_at : List ℕ → ℕ → ℕ
label_at labels p = slice_index_or labels p 0

-- no edge leads to a greater label
abbrev pub AreFalling : List (List ℕ) → List ℕ → Type 0
AreFalling graph labels =
    (p q : ℕ) → has q (edges graph p) ≡ true → label_at labels q ≤ label_at labels p

-- no place that is marked is reached from itself
abbrev pub IsRuledOut : List (List ℕ) → List Bool → Type 0
IsRuledOut graph out = (p : ℕ) → slice_index_or out p false ≡ true → ReachesOn graph p p → ⊥

-- the name at a place
abbrev pub name_at : List RealmTable → ℕ → List ℕ
name_at realms p = slice_index_or (map (λ r. r.name) realms) p []

-- the name at a place comes before that of the place that is kept
abbrev pub comes_first : List RealmTable → ℕ → Option ℕ → Bool
comes_first realms p None = true
comes_first realms p (Some kept) =
    is_lt (slice_cmp nat_cmp (name_at realms p) (name_at realms kept))

-- a place is kept, where it is reached from itself and its name comes first
abbrev pub IsStep : List (List ℕ) → List RealmTable → ℕ → Option ℕ → Option ℕ → Type 0
IsStep graph realms p before after =
    (ReachesOn graph p p × (comes_first realms p before ≡ true) × (after ≡ Some p))
    ⊎ ((ReachesOn graph p p → comes_first realms p before ≡ false) × (after ≡ before))

-- the place has the least name among those before this one that are reached from themselves
pub record IsLeastPlace (graph : List (List ℕ)) (realms : List RealmTable)
    (n place : ℕ) : Type 0 where
  pub itself : ReachesOn graph place place
  pub least : (p : ℕ) → p < n → ReachesOn graph p p
      → is_lt (slice_cmp nat_cmp (name_at realms p) (name_at realms place)) ≡ false

abbrev pub IsLeastBefore : List (List ℕ) → List RealmTable → ℕ → Option ℕ → Type 0
IsLeastBefore graph realms n None = (p : ℕ) → p < n → ReachesOn graph p p → ⊥
IsLeastBefore graph realms n (Some place) = IsLeastPlace graph realms n place

-- just the places that were found are marked, each once
pub record IsMarked (marks : List Bool) (found : List ℕ) : Type 0 where
  pub same : (q : ℕ) → q < length marks → slice_index_or marks q false ≡ has q found
  pub count : count_by (λ m. m) marks ≡ length found
