use Rattle.std.proofs.Common.{arith}
use Rattle.base64.specs.GeneralPurpose.{IsBytes}
use Rattle.text_kinds.proofs.ContentLaws.{contents_written}
use Rattle.text_kinds.proofs.contents.encoded.Goals as goal

pub returns-clause-again : goal.returns-clause-again
returns-clause-again c =
    let bytes : IsBytes c.args.bytes.now = λ i. omega (arith, c.type_inv.bytes i) in
    contents_written c.args.bytes.now bytes
