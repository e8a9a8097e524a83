use Rattle.std.proofs.Common.{◌≡◌, map, take}
use Rattle.serde_json.specs.View.{view}
use Rattle.query_forms.specs.Lists.{text_of}
use Rattle.query_forms.proofs.named.texts_of.Given as goal

abbrev pub invariant-loop-value : goal.invariant-loop-value
invariant-loop-value l = l.texts.items ≡ map text_of (map view (take l.value-index l.values))
