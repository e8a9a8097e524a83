use Rattle.token_texts.proofs.TokenLaws.{added_as, also}
use Rattle.result_texts.proofs.PairLaws.{variant_tokens}
use Rattle.result_texts.proofs.pairs.put_rising.Goals as goal

pub returns : goal.returns
returns c =
    added_as (variant_tokens c.args.name.now c.args.pairs.now c.requires.rising c.requires.texts c.requires.some)
    (also (also (also (also (also (also c.in_ok-put_key.ensures c.in_ok-begin_object.ensures) c.in_ok-put_key-2.ensures) c.in_ok-begin_object-2.ensures) c.in_ok-put_each_pair.ensures)
    c.in_ok-end_object.ensures) c.in_ok-end_object-2.ensures)
