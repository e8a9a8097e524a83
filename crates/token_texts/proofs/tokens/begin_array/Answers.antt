use Rattle.json.specs.Token.{begin_array}
use Rattle.token_texts.proofs.TokenLaws.{added}
use Rattle.token_texts.proofs.tokens.begin_array.Goals as goal

pub returns : goal.returns
returns c = added c.begin_array.result c.args.out.now c.begin_array.new.self begin_array c.begin_array.ensures
