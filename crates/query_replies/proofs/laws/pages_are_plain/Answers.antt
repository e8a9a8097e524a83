use Rattle.query_replies.proofs.PlainLaws.{pages_plain}
use Rattle.query_replies.proofs.laws.pages_are_plain.Goals as goal

pub returns : goal.returns
returns c = pages_plain
