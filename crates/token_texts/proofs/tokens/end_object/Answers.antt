use Rattle.json.specs.Token.{end_object}
use Rattle.token_texts.proofs.TokenLaws.{added}
use Rattle.token_texts.proofs.tokens.end_object.Goals as goal

pub returns : goal.returns
returns c = added c.end_object.result c.args.out.now c.end_object.new.self end_object c.end_object.ensures
