use Rattle.std.proofs.Common.{sym, ◌∙◌, arith}
use Rattle.std.specs.Prelude.{string_bytes}
use Rattle.artifact_replies.proofs.PlainLaws.{nothing_shown, contents_done}
use Rattle.artifact_replies.proofs.wholes.append_contents.Goals as goal

pub returns-then-is_empty : goal.returns-then-is_empty
returns-then-is_empty c = nothing_shown (string_bytes c.args.out.now) c.args.bytes.now (sym c.is_empty.ensures ∙ c.if-is_empty.true)

pub returns : goal.returns
returns c =
    contents_done c.args.bytes.now (string_bytes c.args.out.now) _ _ _ _ (λ i. omega (arith, c.type_inv.bytes i)) (sym c.is_empty.ensures ∙ c.if-is_empty.false)
    c.in_ok-append_key.ensures c.in_ok-append.ensures c.in_ok-append_encoded.ensures c.in_ok-append-2.ensures
