use Rattle.std.proofs.Common.{sym, subst}
use Rattle.std.specs.Str.{IsUtf8}
use Rattle.std.proofs.lemmas.Str.{is_utf8-from_IsUtf8}
use Rattle.token_texts.proofs.MemberLaws.{not_utf8}
use Rattle.result_texts.proofs.pairs.has_text_key.Goals as goal

pub returns-in-Ok : goal.returns-in-Ok
returns-in-Ok c = sym (is_utf8-from_IsUtf8 c.args.pair.now.key (subst IsUtf8 c.as_slice.ensures c.in-Ok.ensures.cases.1))

pub returns-in-Err : goal.returns-in-Err
returns-in-Err c = sym (not_utf8 c.args.pair.now.key (λ is. c.in-Err.ensures.cases.0 (subst IsUtf8 (sym c.as_slice.ensures) is)))
