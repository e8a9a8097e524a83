use Rattle.std.proofs.Common.{◌≡◌, [], length, unwrap_or, ap, sym, rules, arith}
use Rattle.http.specs.StatusCode.{reason_phrase}
use Rattle.http_wire.proofs.ReplyLaws.{phrase_any, phrase_none, not_code}
use Rattle.http_wire.proofs.reply_head.phrase.Goals as goal

pub returns-in-Ok-clause-short : goal.returns-in-Ok-clause-short
returns-in-Ok-clause-short c =
    let same : c.unwrap_or.result.now ≡ unwrap_or (reason_phrase c.args.status) [] = search rules in
    let len = ap length same in
    let few = phrase_any c.args.status in
    omega (arith, len, few)

pub returns-in-Err-clause-text : goal.returns-in-Err-clause-text
returns-in-Err-clause-text c = ap (λ o. unwrap_or o []) (sym (phrase_none c.args.status (not_code c.args.status c.in-Err.ensures)))
