use Rattle.json.specs.Token.{end_array}
use Rattle.token_texts.proofs.TokenLaws.{added}
use Rattle.token_texts.proofs.tokens.end_array.Goals as goal

pub returns : goal.returns
returns c = added c.end_array.result c.args.out.now c.end_array.new.self end_array c.end_array.ensures
