-- Files that stand where standard streams are closed.
use Rattle.std.specs.Prelude.{ℕ, ◌<◌, ◌≤◌, Option, None, Some}
use Rattle.standard_files.specs.declared.hold.OpenedFile.{OpenedFile}
use Rattle.standard_files.specs.declared.hold.Held.{Held}

-- The number of a standard stream: that of the input, of the output or of the errors.
abbrev pub IsStandard : {F : Type 0} → Option (OpenedFile F) → Type 0
IsStandard None = Unit {0}
IsStandard (Some opened) = opened.number ≤ 2

-- Each file that is held has the number of a standard stream.
pub record HoldsStandard {F : Type 0} (held : Held F) : Type 0 where
  pub first : IsStandard held.first
  pub second : IsStandard held.second
  pub third : IsStandard held.third

abbrev pub third_of : {F : Type 0} → Held F → Option (OpenedFile F)
third_of held = held.third

-- The number is above those of the standard streams.
abbrev pub IsAbove : Option ℕ → Type 0
IsAbove None = ⊥
IsAbove (Some number) = 2 < number
