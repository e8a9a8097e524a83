use Rattle.std.specs.Prelude.{string_bytes}
use Rattle.artifact_replies.proofs.PlainLaws.{plain_done}
use Rattle.artifact_replies.proofs.texts.append_plain.Goals as goal

pub returns : goal.returns
returns c = plain_done c.args.text.now (string_bytes c.args.out.now) _ _ _ c.requires c.in_ok-append.ensures c.in_ok-append-2.ensures c.in_ok-append-3.ensures
