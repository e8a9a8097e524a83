use Rattle.std.proofs.Common.{sym, ◌∙◌, map-id, arith}
use Rattle.std.proofs.lemmas.Iterator.Adapters.{YieldsList-from_vec}
use Rattle.std.proofs.lemmas.Iterator.Consumers.{YieldsList-end}
use Rattle.pair_kinds.proofs.tags.pairs_from.Goals as goal

pub returns : goal.returns
returns c =
    let items = c.into_vec-tag-items.result.items in
    let gives = c.into_iter-tag-iterator.ensures.into_iter_gives in
    let all = YieldsList-from_vec {s = c.into_iter-tag-iterator.result} items gives.0 (omega (arith, gives.1, c.into_vec-tag-items.result.ok.0)) in
    let end = YieldsList-end all c.loop-tag.yielded c.loop-tag.tag-iterator c.loop-tag.yielded_by c.next.result c.next.new.self c.in-None.is c.next.ensures.steps in
    c.new.ensures ∙ c.loop-tag.invariant ∙ sym (map-id c.loop-tag.yielded) ∙ end.0 ∙ c.into_vec-tag-items.ensures
