-- The names of users.
use Rattle.std.specs.Prelude.{ℕ, Bool, false, ◌&&◌, ◌||◌, ◌==◌, nat_le, List, [], ◌∷◌, length}
use Rattle.std.specs.List.{list_all}
use Rattle.std.specs.Char.{is_ascii_lowercase, is_ascii_digit}

-- a lower-case letter, a digit or one of `_ - .`
abbrev pub may_follow : ℕ → Bool
may_follow b = is_ascii_lowercase b || is_ascii_digit b || b == 95 || b == 45 || b == 46

-- a lower-case letter, then up to 63 bytes that may follow
abbrev pub is_user_name : List ℕ → Bool
is_user_name [] = false
is_user_name (b ∷ bs) = is_ascii_lowercase b && nat_le (length bs) 63 && list_all may_follow bs
