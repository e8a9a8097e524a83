use Rattle.std.proofs.Common.{◌≡◌}
use Rattle.serde_json.specs.View.{members_view}
use Rattle.field_kinds.specs.Variants.{all_texts}
use Rattle.field_kinds.proofs.variants.all_texts.Given as goal

abbrev pub invariant-loop-key : goal.invariant-loop-key
invariant-loop-key l = all_texts (members_view l.map.entries) ≡ all_texts (members_view l._key-iterator)
