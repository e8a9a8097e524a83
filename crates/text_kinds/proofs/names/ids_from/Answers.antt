use Rattle.std.proofs.Common.{sym, ◌∙◌, map-id, arith}
use Rattle.std.proofs.lemmas.Iterator.Adapters.{YieldsList-from_vec}
use Rattle.std.proofs.lemmas.Iterator.Consumers.{YieldsList-end}
use Rattle.text_kinds.proofs.names.ids_from.Goals as goal

pub returns : goal.returns
returns c =
    let items = c.into_vec-name-items.result.items in
    let gives = c.into_iter-name-iterator.ensures.into_iter_gives in
    let all = YieldsList-from_vec {s = c.into_iter-name-iterator.result} items gives.0 (omega (arith, gives.1, c.into_vec-name-items.result.ok.0)) in
    let end = YieldsList-end all c.loop-name.yielded c.loop-name.name-iterator c.loop-name.yielded_by c.next.result c.next.new.self c.in-None.is c.next.ensures.steps in
    c.new.ensures ∙ c.loop-name.invariant ∙ sym (map-id c.loop-name.yielded) ∙ end.0 ∙ c.into_vec-name-items.ensures
