use Rattle.std.specs.Prelude.{true}
use Rattle.json.specs.Token.{boolean}
use Rattle.token_texts.proofs.TokenLaws.{added}
use Rattle.token_texts.proofs.tokens.put_true.Goals as goal

pub returns : goal.returns
returns c = added c.boolean.result c.args.out.now c.boolean.new.self (boolean true) c.boolean.ensures
