-- Counts that never fall, over several calls.
use Rattle.std.proofs.Common.{ℕ, ◌≤◌, arith}
use Rattle.fault_counts.specs.Causes.{Rose}

-- What rose stays so, whatever comes after it,
pub rose_then_more : (before between now : ℕ) → Rose before between → between ≤ now → Rose before now
rose_then_more before between now rose more = omega arith

-- and whatever came before it.
pub more_then_rose : (before between now : ℕ) → before ≤ between → Rose between now → Rose before now
more_then_rose before between now more rose = omega arith
