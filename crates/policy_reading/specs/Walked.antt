-- A machine of the code: a walk that finds an order in which each place stands behind those that it
-- leads to.
use Rattle.std.specs.Prelude.{◌≡◌, ◌⊎◌, ℕ, ◌+◌, ◌-◌, ◌<◌, Bool, true, false, if◌then◌else◌, List, [], ◌∷◌, ◌++◌, length, map, take, slice_index_or}
use Rattle.policy_reading.specs.declared.order.Frame.{Frame}
use Rattle.policy_reading.specs.declared.order.Mark.{Mark}
use Rattle.policy_reading.specs.declared.order.Mark.TheVariants.{Unseen, Open, Done}
use Rattle.permissions.specs.Graph.{has, edges, ReachesOn}
use Rattle.permissions.specs.Order.{IsLaid}

-- some place is reached from itself
pub record LeadsBack (graph : List (List ℕ)) : Type 0 where
  pub place : ℕ
  pub itself : ReachesOn graph place place

-- the places of a path
abbrev pub places_of : List Frame → List ℕ
places_of path = map (λ f. f.place) path

-- Each place of a path leads to the next one. What its edges that were followed lead to stands in
-- the order, but for the next one.
abbrev pub IsPath : List (List ℕ) → List ℕ → List Frame → Type 0
IsPath graph order [] = Unit {0}
IsPath graph order (f ∷ []) =
    (q : ℕ) → has q (take f.followed (edges graph f.place)) ≡ true → has q order ≡ true
IsPath graph order (f ∷ g ∷ fs) =
    ((q : ℕ) → has q (take f.followed (edges graph f.place)) ≡ true
    → (has q order ≡ true) ⊎ (q ≡ g.place))
    × (has g.place (edges graph f.place) ≡ true)
    × IsPath graph order (g ∷ fs)

-- the mark of a place that stands on the path, or in the order
abbrev pub mark_of : Bool → Bool → Mark
mark_of on_path in_order = if in_order then Done else (if on_path then Open else Unseen)

-- the mark of a place
abbrev pub mark_at : List Mark → ℕ → Mark
mark_at marks q = slice_index_or marks q Unseen

abbrev pub is_unseen : Mark → Bool
is_unseen Unseen = true
is_unseen Open = false
is_unseen Done = false

-- how far a walk has come: what stands on the path, and in the order
pub record IsWalked (graph : List (List ℕ)) (marks : List Mark) (path : List Frame)
    (order : List ℕ) : Type 0 where
  pub count : length marks ≡ length graph
  pub marked : (q : ℕ) → q < length graph
      → mark_at marks q ≡ mark_of (has q (places_of path)) (has q order)
  pub within : (q : ℕ) → has q (places_of path) ≡ true → q < length graph
  pub linked : IsPath graph order path
  pub laid : IsLaid graph [] order
  pub known : (q : ℕ) → has q order ≡ true → q < length graph

-- what was seen is seen still
abbrev pub StaysSeen : List Mark → List Mark → Type 0
StaysSeen old new = (q : ℕ) → is_unseen (mark_at old q) ≡ false → is_unseen (mark_at new q) ≡ false

-- how many steps are left for the places of a path, and for those that weren't seen
abbrev pub frames_left : List (List ℕ) → List Frame → ℕ
frames_left graph [] = 0
frames_left graph (f ∷ fs) = 1 + (length (edges graph f.place) - f.followed) + frames_left graph fs

abbrev pub unseen_left : List Mark → List (List ℕ) → ℕ
unseen_left [] rows = 0
unseen_left (m ∷ ms) [] = 0
unseen_left (m ∷ ms) (row ∷ rows) =
    (if is_unseen m then 1 + length row else 0) + unseen_left ms rows

abbrev pub steps_left : List (List ℕ) → List Mark → List Frame → ℕ
steps_left graph marks path = unseen_left marks graph + frames_left graph path
