use Rattle.std.proofs.Common.{◌≡◌, map, drop}
use Rattle.junit_parts.specs.Flaws.{first_flaw}
use Rattle.junit_parts.specs.Tags.{attribute_text}
use Rattle.junit_parts.proofs.judging.first_flaw.Given as goal

abbrev pub invariant-loop-attribute : goal.invariant-loop-attribute
invariant-loop-attribute l = first_flaw (map attribute_text (drop l.attribute-index l.attributes)) ≡ first_flaw (map attribute_text l.attributes)
