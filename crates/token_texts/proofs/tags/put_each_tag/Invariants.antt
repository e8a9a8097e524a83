use Rattle.std.proofs.Common.{take}
use Rattle.std.specs.List.{flat_map}
use Rattle.token_texts.specs.Shown.{pair_data}
use Rattle.token_texts.specs.Tokens.{tokens_of, IsAdded}
use Rattle.token_texts.proofs.tags.put_each_tag.Given as goal

abbrev pub invariant-loop-tag : goal.invariant-loop-tag
invariant-loop-tag l = IsAdded l.fn.out l.out (flat_map (λ tag. tokens_of (pair_data tag)) (take l.tag-index l.tags))
