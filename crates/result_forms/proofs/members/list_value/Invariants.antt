use Rattle.std.proofs.Common.{◌≡◌, map, take}
use Rattle.serde_json.specs.View.{view}
use Rattle.result_forms.proofs.members.list_value.Given as goal

abbrev pub invariant-loop-x : goal.invariant-loop-x
invariant-loop-x g l = map view l.list.items ≡ map g.T.Shown.shows (take l.x-index l.xs)
