use Rattle.std.proofs.Common.{◌≡◌, arith, ◌∙◌, ap, take, Err}
use Rattle.std.specs.Vec.{with_items}
use Rattle.std.proofs.lemmas.List.{with_items_is}
use Rattle.std.proofs.lemmas.Result.{err_from_is_err_and}
use Rattle.sink_replies.proofs.ReadLaws.{fills_none, fills_some}
use Rattle.sink_replies.proofs.reader.ReplyReader.fill.Goals as goal

pub returns-clause-filled : goal.returns-clause-filled
returns-clause-filled g c =
    let room = c.self.inside.room in
    let now = c.read_at.new.room in
    let once : (with_items room now).items ≡ now = with_items_is room now (omega arith) in
    rw once
    (fills_some _ now _ _ _ c.self.inside.filled c.in_ok-count.count _
    (ap (take c.self.inside.filled) c.as_mut_slice.ensures.value ∙ c.self.view_is) c.in_ok-count.ensures.read)

pub returns-in_err-count-clause-filled : goal.returns-in_err-count-clause-filled
returns-in_err-count-clause-filled g c =
    let room = c.self.inside.room in
    let now = c.read_at.new.room in
    let once : (with_items room now).items ≡ now = with_items_is room now (omega arith) in
    let p = err_from_is_err_and c.from_residual.result c.from_residual.ensures.1 in
    rw once
    (fills_none _ now _ _ _ c.self.inside.filled _ _
    (ap (take c.self.inside.filled) c.as_mut_slice.ensures.value ∙ c.self.view_is) (p.1 ∙ ap Err p.2) c.in_err-count.ensures.read)
