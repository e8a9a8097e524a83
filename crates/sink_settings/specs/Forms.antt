-- The forms of the two tokens.
use Rattle.std.specs.Prelude.{ℕ, ◌==◌, Bool, ◌&&◌, ◌||◌, List, length, nat_le}
use Rattle.std.specs.List.{list_all}

-- a visible byte of ASCII
abbrev pub is_visible : ℕ → Bool
is_visible b = nat_le 0x21 b && nat_le b 0x7E

-- the token of a caller: 1 to 256 visible bytes
abbrev pub is_token : List ℕ → Bool
is_token text = nat_le 1 (length text) && nat_le (length text) 256 && list_all is_visible text

-- `0` to `9`, and `a` to `f`
abbrev pub is_lower_hex : ℕ → Bool
is_lower_hex b = (nat_le 48 b && nat_le b 57) || (nat_le 97 b && nat_le b 102)

-- an update token: 64 such digits
abbrev pub is_update_token : List ℕ → Bool
is_update_token text = (length text == 64) && list_all is_lower_hex text
