use Rattle.std.proofs.Common.{◌∙◌}
use Rattle.http_wire.proofs.FieldLaws.{with_pair, close_more}
use Rattle.http_wire.proofs.fields.with_header.Goals as goal

pub returns : goal.returns
returns c list x =
    with_pair _ list _ _ _ c.of-name.ensures c.of-value.ensures (record {
      content_length = c.with_field.ensures list x.content_length;
      transfer_encoding = c.with_field-2.ensures list x.transfer_encoding;
      authorization = c.with_field-3.ensures list x.authorization;
      update_token = c.with_field-4.ensures list x.update_token;
      closes = c.with_close.ensures ∙ close_more list _ _ _ x.closes;
    })
