use Rattle.std.proofs.Common.{◌++◌, codes, ap, ◌∙◌}
use Rattle.call_forms.specs.ReplyBytes.{line}
use Rattle.http_wire.proofs.reply_head.put_type_line.Goals as goal

pub returns-clause-items : goal.returns-clause-items
returns-clause-items c =
    c.put_line.ensures.items
    ∙ ap (λ v. c.args.head.now.items ++ line (codes "Content-Type: " ++ v)) (c.as_bytes.ensures.value ∙ c.type_text.ensures.text)
