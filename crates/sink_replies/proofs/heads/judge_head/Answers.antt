use Rattle.std.proofs.Common.{subst, sym}
use Rattle.sink_replies.specs.Replies.{IsOneLength}
use Rattle.sink_replies.proofs.ReplyLaws.{other_head, same_lengths}
use Rattle.sink_replies.proofs.heads.judge_head.Goals as goal

pub returns-in-None : goal.returns-in-None
returns-in-None c =
    let at = c.requires.stands.1 in
    other_head c.args.bytes.now c.requires.stands.0 _ c.args.spans.len at.reads at.len
    (λ n one. c.in-None.ensures n (subst (λ vs. IsOneLength vs n) (sym (same_lengths _ _ _ _ at)) one))
