use Rattle.std.proofs.Common.{◌++◌, length, ap, ◌∙◌}
use Rattle.std.proofs.lemmas.List.{drop-replicate}
use Rattle.update_tokens.specs.Hash.{filled_block}
use Rattle.update_tokens.proofs.hash.block_of_short.Goals as goal

pub returns : goal.returns
unfolding filled_block
returns c = c.write_front.ensures ∙ ap (λ t. c.args.key.now ++ t) (drop-replicate (length c.args.key.now) 64 0)
