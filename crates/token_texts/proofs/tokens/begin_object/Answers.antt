use Rattle.json.specs.Token.{begin_object}
use Rattle.token_texts.proofs.TokenLaws.{added}
use Rattle.token_texts.proofs.tokens.begin_object.Goals as goal

pub returns : goal.returns
returns c = added c.begin_object.result c.args.out.now c.begin_object.new.self begin_object c.begin_object.ensures
