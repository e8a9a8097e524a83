use Rattle.std.proofs.Common.{◌≡◌, take}
use Rattle.std.specs.Prelude.{fold}
use Rattle.serde_json.specs.Data.{no_members}
use Rattle.serde_json.specs.View.{members_view}
use Rattle.result_forms.specs.Shown.{put_pair}
use Rattle.result_forms.proofs.shown.pairs_value.Given as goal

abbrev pub invariant-loop-pair : goal.invariant-loop-pair
invariant-loop-pair l = members_view l.map.entries ≡ fold put_pair no_members (take l.pair-index l.pairs)
