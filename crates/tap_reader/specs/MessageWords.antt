-- The code's own word for the bytes that a message is cut from.
use Rattle.std.specs.Prelude.{ℕ, ◌+◌, ◌*◌, if◌then◌else◌, Bool, List, ◌∷◌, take, map}
use Rattle.std.specs.List.{join_with_byte}
use Rattle.tap_reader.specs.Cases.{unindented}

-- the first 1,024 bytes of a diagnostic
abbrev pub front_of : ℕ → List (List ℕ) → List ℕ
front_of level ls = take 1024 (join_with_byte 10 (map (unindented (4 * level + 2)) ls))

-- a line behind those before it
abbrev pub parted : Bool → List ℕ → List ℕ
parted is_first line = if is_first then line else 10 ∷ line
