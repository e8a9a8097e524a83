use Rattle.std.proofs.Common.{List, ℕ, length}
use Rattle.junit_parts.specs.Values.{value_of}
use Rattle.junit_parts.proofs.ValueLemmas.{Left}
use Rattle.junit_parts.proofs.values.flaw_in.Given as goal

abbrev pub invariant-loop-first : goal.invariant-loop-first
invariant-loop-first l = (front : List ℕ) × Left front l.rest (value_of l.value)

abbrev pub decreases-loop-first : goal.decreases-loop-first
decreases-loop-first l = length l.rest
