use Rattle.std.proofs.Common.{ap, ◌∙◌}
use Rattle.serde_json.specs.Written.{has_float}
use Rattle.query_replies.proofs.PlainLaws.{seen_no_float}
use Rattle.query_replies.proofs.replies.write_result.Goals as goal

pub append_value-requires : goal.append_value-requires
append_value-requires c = ap has_float c.in_ok-value.ensures ∙ seen_no_float c.args.held.now
