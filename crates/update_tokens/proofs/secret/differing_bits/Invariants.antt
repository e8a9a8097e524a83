use Rattle.std.proofs.Common.{◌≡◌, ℕ, ◌<◌, get_or}
use Rattle.update_tokens.proofs.secret.differing_bits.Given as goal

-- no bit so far: the bytes so far are the same; and texts that are the same leave no bit
abbrev pub invariant-loop-i : goal.invariant-loop-i
invariant-loop-i l = record {
  same : l.bits ≡ 0 → (k : ℕ) → k < l.i → get_or l.left k 0 ≡ get_or l.right k 0;
  none : l.left ≡ l.right → l.bits ≡ 0;
}
