use Rattle.artifact_replies.proofs.AlikeLaws.{lists_hide_contents}
use Rattle.artifact_replies.proofs.laws.lists_hide_contents.Goals as goal

pub returns : goal.returns
returns c = lists_hide_contents
