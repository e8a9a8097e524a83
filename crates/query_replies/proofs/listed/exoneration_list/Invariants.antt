use Rattle.std.proofs.Common.{◌≡◌, map, take}
use Rattle.std.specs.Option.{option_copied}
use Rattle.serde_json.specs.View.{view}
use Rattle.query_replies.specs.Verdicts.{exoneration_data}
use Rattle.query_replies.proofs.listed.exoneration_list.Given as goal

abbrev pub invariant-loop-explanation : goal.invariant-loop-explanation
invariant-loop-explanation l = map view l.list.items ≡ map exoneration_data (map option_copied (take l.explanation-index l.explanations))
