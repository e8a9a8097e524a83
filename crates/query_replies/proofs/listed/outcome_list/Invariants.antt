use Rattle.std.proofs.Common.{◌≡◌, map, take}
use Rattle.serde_json.specs.View.{view}
use Rattle.query_pages.specs.Seen.{seen_held}
use Rattle.query_replies.specs.Verdicts.{outcome_data}
use Rattle.query_replies.proofs.listed.outcome_list.Given as goal

abbrev pub invariant-loop-held : goal.invariant-loop-held
invariant-loop-held l = map view l.list.items ≡ map outcome_data (map seen_held (take l.held-index l.results))
