use Rattle.sink_replies.proofs.ReplyLaws.{alone_by_length, not_alone}
use Rattle.sink_replies.proofs.ends.is_alone.Goals as goal

pub returns-then-spans-bytes : goal.returns-then-spans-bytes
returns-then-spans-bytes c = not_alone c.args.bytes.now c.args.headers.now c.args.spans c.requires.stands c.if-spans-bytes.true

pub returns : goal.returns
returns c =
    alone_by_length c.args.bytes.now c.args.headers.now c.args.spans c.one_length.result c.is_some.result c.is_some.ensures c.one_length.ensures
    c.requires.stands c.if-spans-bytes.false c.requires.short c.requires.few
