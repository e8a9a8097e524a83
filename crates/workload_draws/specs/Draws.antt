-- The draws of a number: a linear congruential generator of 64 bits.
use Rattle.std.specs.Prelude.{ℕ, zero, suc, ◌+◌, ◌*◌, ◌/◌, ◌%◌, ◌^◌}

-- the state behind one
abbrev pub next_state : ℕ → ℕ
next_state x = (x * 6364136223846793005 + 1442695040888963407) % 2 ^ 64

-- the state behind so many draws
unfoldable pub state_behind : ℕ → ℕ → ℕ
state_behind x zero = x
state_behind x (suc n) = next_state (state_behind x n)

-- the draw behind so many others: what its state is without the lowest 33 bits
abbrev pub draw : ℕ → ℕ → ℕ
draw x n = state_behind x (n + 1) / 2 ^ 33
