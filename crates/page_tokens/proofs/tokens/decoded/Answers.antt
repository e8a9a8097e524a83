use Rattle.std.proofs.Common.{refl}
use Rattle.page_tokens.proofs.TokenLemmas.{no_bytes, some_bytes}
use Rattle.page_tokens.proofs.tokens.decoded.Goals as goal

pub returns-in-Ok-clause-ok : goal.returns-in-Ok-clause-ok
returns-in-Ok-clause-ok c =
    (some_bytes c.args.text.now c.in-Ok.bytes.items c.in-Ok.ensures.ok, c.in-Ok.ensures.exact (refl, refl), c.in-Ok.ensures.bytes)

pub returns-in-Err-DecodeError-clause-err : goal.returns-in-Err-DecodeError-clause-err
returns-in-Err-DecodeError-clause-err c other =
    let failed = rw c.in-Err-DecodeError.field-0-is at c.in-Err-DecodeError.ensures.err in
    (refl, no_bytes c.args.text.now c.in-Err-DecodeError.field-0-0 failed)
