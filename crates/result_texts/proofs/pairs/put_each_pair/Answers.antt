use Rattle.result_texts.specs.Pairs.{pair_tokens}
use Rattle.token_texts.proofs.ListLaws.{rows_none, rows_more, rows_all}
use Rattle.result_texts.proofs.pairs.put_each_pair.Goals as goal

pub loop-pair-init : goal.loop-pair-init
loop-pair-init c = rows_none pair_tokens c.args.pairs.now c.args.out.now

pub loop-pair-preserved : goal.loop-pair-preserved
loop-pair-preserved c =
    rows_more pair_tokens c.args.pairs.now c.loop-pair.pair-index c.pair-item.result c.loop-pair-test.true c.pair-item.is c.loop-pair.invariant c.in_ok-put_pair.ensures

pub returns : goal.returns
returns c = rows_all pair_tokens c.args.pairs.now c.loop-pair.pair-index c.loop-pair-test.false c.loop-pair.invariant
