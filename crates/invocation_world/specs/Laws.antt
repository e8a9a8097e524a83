-- Laws of the world.
use Rattle.std.specs.Prelude.{◌≡◌, ◌≢◌, ◌↔◌, ◌≤ℤ◌, ◌<ℤ◌, ◌<◌, ◌≤◌, ◌+◌, ℕ, ℤ, true, List, Option, Some, All, length, slice_get}
use Rattle.std.specs.Option.{ForSome}
use Rattle.names_realms.specs.declared.pairs.Pair.{Pair}
use Rattle.names_realms.specs.declared.states.State.TheVariants.{Active, Finalized}
use Rattle.inclusion_graph.specs.Edges.{fresh, targets_of}
use Rattle.inclusion_graph.specs.Walks.{Reaches}
use Rattle.invocations.specs.declared.invocation.Invocation.{Invocation}
use Rattle.invocations.specs.Faults.{CanAdd}
use Rattle.invocations.specs.Rows.{IsInState}
use Rattle.invocation_world.specs.World.{World, IsCallMoment, IsPair, IsRow, IsValid, latest_deadline, with_row}
use Rattle.invocation_world.specs.Settling.{Settles}
use Rattle.invocation_world.specs.Changes.{is_update, updated, with_begun, with_inclusions, with_moment, with_update}
use Rattle.invocation_world.specs.Advancing.{Advances, IsQuiet}

-- A world settles in one way at most.
abbrev pub SettlesOnce : Type 0
SettlesOnce = (moment : ℤ) (w v x : World) → Settles moment w v → Settles moment w x → v ≡ x

-- Each world settles.
abbrev pub HasSettling : Type 0
HasSettling = (moment : ℤ) (w : World) → (after : World) × Settles moment w after

-- A valid world settles into itself.
abbrev pub ValidIsSettled : Type 0
ValidIsSettled = (moment : ℤ) (w : World) → IsValid w → Settles moment w w

-- What is due is carried out in one way at most.
abbrev pub AdvancesOnce : Type 0
AdvancesOnce = (moment : ℤ) (w v x : World) → Advances w moment v → Advances w moment x → v ≡ x

-- It can be carried out in each world.
abbrev pub HasAdvance : Type 0
HasAdvance = (moment : ℤ) (w : World) → (after : World) × Advances w moment after

-- In a valid world, at the moment of a call that isn't before the last change, this gives a valid
-- one, in which nothing is due any more.
abbrev pub AdvanceKeepsValid : Type 0
AdvanceKeepsValid =
    (moment : ℤ) (w after : World) → IsValid w → IsCallMoment moment → w.last ≤ℤ moment
    → Advances w moment after
    → IsValid after × IsQuiet after moment

-- So does each change at the moment of a call that isn't before the last change, at which nothing
-- is due: a new row; the retirement of an active row, once the rows settled; an update of an active
-- row to a deadline that is still to come; inclusions in an active row of other rows that are
-- there; and a change beside the invocations, which is the moment of the last change alone.
abbrev pub ChangesKeepValid : Type 0
ChangesKeepValid =
    (moment : ℤ) (w : World) (place : ℕ) → IsValid w → IsCallMoment moment → w.last ≤ℤ moment
    → IsQuiet w moment
    → ((row : Invocation) → CanAdd w.invocations row.id → IsRow moment row → row.state ≡ Active
    → row.created ≡ moment
    → IsValid (with_row w row))
    × ((after : World) → IsInState Active w.invocations place
    → Settles moment (with_begun moment place w) after
    → IsValid after)
    × ((deadline : Option ℤ) (tags : Option (List Pair)) → IsInState Active w.invocations place
    → ForSome deadline (λ given. (moment <ℤ given) × (given ≤ℤ latest_deadline))
    → ForSome tags (All IsPair)
    → IsValid (with_update moment place deadline tags w))
    × ((targets : List ℕ) → IsInState Active w.invocations place
    → All (λ target. (target < length w.invocations) × (target ≢ place)) targets
    → length w.inclusions + length (fresh (targets_of w.inclusions place) targets) ≤ 262_144
    → IsValid (with_inclusions moment place targets w))
    × IsValid (with_moment moment w)

-- The rows that are final stay as they are, and what they include and reach stays. In a valid world
-- each row that a final one reaches is final itself, before and after, and stays as it is.
pub record KeepsFinal (w after : World) : Type 0 where
  pub rows : (place : ℕ) (row : Invocation) → slice_get w.invocations place ≡ Some row
      → row.state ≡ Finalized
      → slice_get after.invocations place ≡ Some row
  pub included : (place : ℕ) → IsInState Finalized w.invocations place
      → targets_of after.inclusions place ≡ targets_of w.inclusions place
  pub reached : (place other : ℕ) → IsInState Finalized w.invocations place
      → Reaches after.inclusions place other ↔ Reaches w.inclusions place other
  pub all_final : IsValid w → (place other : ℕ) → IsInState Finalized w.invocations place
      → Reaches w.inclusions place other
      → IsInState Finalized w.invocations other × IsInState Finalized after.invocations other
      × (slice_get after.invocations other ≡ slice_get w.invocations other)

abbrev pub AdvanceKeepsFinal : Type 0
AdvanceKeepsFinal = (moment : ℤ) (w after : World) → Advances w moment after → KeepsFinal w after

abbrev pub SettlingKeepsFinal : Type 0
SettlingKeepsFinal = (moment : ℤ) (w after : World) → Settles moment w after → KeepsFinal w after

-- So it is with each change of a valid world: of an active row, by a new one, or of the moment
-- alone.
abbrev pub ChangesKeepFinal : Type 0
ChangesKeepFinal =
    (moment : ℤ) (w : World) (place : ℕ) → IsValid w
    → ((row : Invocation) → KeepsFinal w (with_row w row))
    × (IsInState Active w.invocations place → KeepsFinal w (with_begun moment place w))
    × ((deadline : Option ℤ) (tags : Option (List Pair)) → IsInState Active w.invocations place
    → KeepsFinal w (with_update moment place deadline tags w))
    × ((targets : List ℕ) → IsInState Active w.invocations place
    → KeepsFinal w (with_inclusions moment place targets w))
    × KeepsFinal w (with_moment moment w)

-- An update is said to change a row just where the row is another one afterwards.
abbrev pub UpdateIsTold : Type 0
UpdateIsTold =
    (deadline : Option ℤ) (tags : Option (List Pair)) (row : Invocation)
    → (is_update deadline tags row ≡ true) ↔ (updated deadline tags row ≢ row)
