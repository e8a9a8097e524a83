use Rattle.std.proofs.Common.{◌≡◌, ◌≤◌, ℕ, length, map}
use Rattle.junit_parts.specs.Tags.{attribute_text, attributes_from}
use Rattle.junit_parts.proofs.TagLemmas.{put_in_front}
use Rattle.junit_parts.proofs.tags.attributes.Given as goal

abbrev pub invariant-loop-rest : goal.invariant-loop-rest
invariant-loop-rest l = (n : ℕ) × (length l.rest ≤ n)
    × (put_in_front (map attribute_text l.attributes.items) (attributes_from n l.rest) ≡ attributes_from (length l.bytes) l.bytes)
    × (length l.rest ≤ length l.bytes)

abbrev pub decreases-loop-rest : goal.decreases-loop-rest
decreases-loop-rest l = length l.rest
