use Rattle.std.proofs.Common.{◌≡◌, map, drop}
use Rattle.junit_parts.specs.Tags.{attribute_text}
use Rattle.junit_parts.specs.Values.{value_named}
use Rattle.junit_parts.proofs.values.value_named.Given as goal

abbrev pub invariant-loop-attribute : goal.invariant-loop-attribute
invariant-loop-attribute l = value_named l.name (map attribute_text (drop l.attribute-index l.attributes)) ≡ value_named l.name (map attribute_text l.attributes)
