use Rattle.std.proofs.Common.{ℕ, List}
use Rattle.std.specs.Borrow.{Bor}
use Rattle.json.specs.Token.{Token}
use Rattle.invocation_forms.specs.Named.{name_data}
use Rattle.token_texts.specs.Tokens.{tokens_of}
use Rattle.token_texts.proofs.ListLaws.{rows_none, rows_more, rows_all}
use Rattle.invocation_texts.proofs.named.put_each_element.Goals as goal

abbrev element : Bor (List ℕ) → List Token
element id = tokens_of (name_data id.now)

pub loop-id-init : goal.loop-id-init
loop-id-init c = rows_none element c.args.ids.now c.args.out.now

pub loop-id-preserved : goal.loop-id-preserved
loop-id-preserved c =
    rows_more element c.args.ids.now c.loop-id.id-index c.id-item.result c.loop-id-test.true c.id-item.is c.loop-id.invariant c.in_ok-put_element.ensures

pub returns : goal.returns
returns c = rows_all element c.args.ids.now c.loop-id.id-index c.loop-id-test.false c.loop-id.invariant
