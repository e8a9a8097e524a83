use Rattle.json.specs.Token.{string}
use Rattle.token_texts.proofs.TokenLaws.{added}
use Rattle.token_texts.proofs.tokens.put_string.Goals as goal

pub returns : goal.returns
returns c = added c.string.result c.args.out.now c.string.new.self (string c.args.text.now) c.string.ensures
