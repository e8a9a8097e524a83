use Rattle.pair_kinds.specs.NamesRealms.declared.pairs.Pair.{Pair}
use Rattle.token_texts.specs.Shown.{pair_data}
use Rattle.token_texts.specs.Tokens.{tokens_of}
use Rattle.token_texts.proofs.ListLaws.{rows_none, rows_more, rows_all}
use Rattle.token_texts.proofs.tags.put_each_tag.Goals as goal

pub loop-tag-init : goal.loop-tag-init
loop-tag-init c = rows_none (λ (tag : Pair). tokens_of (pair_data tag)) c.args.tags.now c.args.out.now

pub loop-tag-preserved : goal.loop-tag-preserved
loop-tag-preserved c =
    rows_more (λ (tag : Pair). tokens_of (pair_data tag)) c.args.tags.now c.loop-tag.tag-index c.tag-item.result c.loop-tag-test.true c.tag-item.is c.loop-tag.invariant
    c.in_ok-put_tag.ensures

pub returns : goal.returns
returns c = rows_all (λ (tag : Pair). tokens_of (pair_data tag)) c.args.tags.now c.loop-tag.tag-index c.loop-tag-test.false c.loop-tag.invariant
