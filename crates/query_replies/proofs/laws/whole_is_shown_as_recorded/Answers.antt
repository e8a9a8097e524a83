use Rattle.query_replies.proofs.WholeLaws.{whole_as_recorded}
use Rattle.query_replies.proofs.laws.whole_is_shown_as_recorded.Goals as goal

pub returns : goal.returns
returns c = whole_as_recorded
