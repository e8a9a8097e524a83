use Rattle.json.specs.Token.{key}
use Rattle.token_texts.proofs.TokenLaws.{added}
use Rattle.token_texts.proofs.tokens.put_key.Goals as goal

pub returns : goal.returns
returns c = added c.key.result c.args.out.now c.key.new.self (key c.args.name.now) c.key.ensures
