use Rattle.std.proofs.Common.{Err, arith, ap, ◌∙◌}
use Rattle.page_tokens.proofs.TokenLemmas.{broken_there, key_within}
use Rattle.page_tokens.proofs.tokens.held_in.Goals as goal

pub overflow_add-result : goal.overflow_add-result
overflow_add-result c =
    let within = (c.contents_of.ensures.fault c.in-Err-At.at (c.in-Err-At.is ∙ ap Err c.in-Err-At.field-0-is)).1 in
    let key = key_within c.args.query.now c.args.kind c.in_ok-key.key.now c.args.bytes.now c.in_ok-key.ensures.ok in
    omega (arith, c.requires, within, key)

pub returns-in-Err-At-clause-fault : goal.returns-in-Err-At-clause-fault
returns-in-Err-At-clause-fault c other =
    broken_there c.args.query.now c.args.kind c.args.parts.now c.in_ok-key.key.now c.args.bytes.now c.in-Err-At.at c.key_of.ensures.len c.in_ok-key.ensures.ok
    (c.contents_of.ensures.fault c.in-Err-At.at (c.in-Err-At.is ∙ ap Err c.in-Err-At.field-0-is)).0
