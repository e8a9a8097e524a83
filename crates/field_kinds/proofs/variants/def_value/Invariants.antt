use Rattle.std.proofs.Common.{◌≡◌, take}
use Rattle.serde_json.specs.View.{members_view}
use Rattle.field_kinds.specs.Variants.{def_members}
use Rattle.field_kinds.proofs.variants.def_value.Given as goal

abbrev pub invariant-loop-pair : goal.invariant-loop-pair
invariant-loop-pair l = members_view l.map.entries ≡ def_members (take l.pair-index l.pairs)
