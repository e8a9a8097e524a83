use Rattle.std.proofs.Common.{◌≡◌, arith, ◌∙◌, ap, Err}
use Rattle.std.specs.Vec.{with_items}
use Rattle.std.proofs.lemmas.List.{with_items_is}
use Rattle.std.proofs.lemmas.Result.{err_from_is_err_and}
use Rattle.http_wire.proofs.BufferLaws.{fills_none, fills_some}
use Rattle.http_wire.proofs.buffer.Buffer.fill.Goals as goal

pub returns-clause-filled : goal.returns-clause-filled
returns-clause-filled g c =
    let room = c.self.inside.room in
    let r1 = c.with_room_behind-from.new.room in
    let r2 = c.read_at.new.room in
    let once : (with_items room r1).items ≡ r1 = with_items_is room r1 (omega arith) in
    let twice : (with_items (with_items room r1) r2).items ≡ r2 = with_items_is (with_items room r1) r2 (omega arith) in
    fills_some _ _ _ (record {
      view = c.self.view_is;
      b1_is = c.as_mut_slice.ensures.value;
      same = c.with_room_behind-from.ensures.same;
      b2_is = c.as_mut_slice-2.ensures.value ∙ once;
      last_is = twice;
    }) c.with_room_behind-from.ensures.ordered c.in_ok-count.ensures.read

pub returns-in_err-count-clause-filled : goal.returns-in_err-count-clause-filled
returns-in_err-count-clause-filled g c =
    let room = c.self.inside.room in
    let r1 = c.with_room_behind-from.new.room in
    let r2 = c.read_at.new.room in
    let once : (with_items room r1).items ≡ r1 = with_items_is room r1 (omega arith) in
    let twice : (with_items (with_items room r1) r2).items ≡ r2 = with_items_is (with_items room r1) r2 (omega arith) in
    let p = err_from_is_err_and c.from_residual.result c.from_residual.ensures.1 in
    fills_none _ _ _ _ (record {
      view = c.self.view_is;
      b1_is = c.as_mut_slice.ensures.value;
      same = c.with_room_behind-from.ensures.same;
      b2_is = c.as_mut_slice-2.ensures.value ∙ once;
      last_is = twice;
    }) c.in_err-count.ensures.read (p.1 ∙ ap Err p.2)
