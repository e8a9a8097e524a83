-- The code's own word for the room that the longest front leaves.
use Rattle.std.specs.Prelude.{ℕ, ◌-◌, if◌then◌else◌, nat_le, List, [], ◌∷◌}
use Rattle.std.specs.Char.{len_utf8}

-- so many bytes without those of the front, or none where a character didn't fit
abbrev pub room_behind : ℕ → List ℕ → ℕ
room_behind room [] = room
room_behind room (c ∷ cs) =
    if nat_le (len_utf8 c) room then room_behind (room - len_utf8 c) cs else 0
