use Rattle.invocation_forms.specs.Replies.{invocation_data}
use Rattle.token_texts.proofs.TextLaws.{text_done}
use Rattle.invocation_texts.proofs.invocations.append_invocation.Goals as goal

pub returns : goal.returns
returns c =
    text_done (invocation_data c.args.shown.now) c.args.text.items c.into_inner.result.items c.new-out.result c.put_invocation.new.out c.new-out.ensures.before
    c.new-out.ensures.tokens c.in_ok-put_invocation.ensures c.into_inner.ensures.items
