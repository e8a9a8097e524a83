use Rattle.std.proofs.Common.{◌≡◌, ◌∙◌, refl, arith, ap, sym, subst, Err, length, take}
use Rattle.std.specs.Vec.{with_items}
use Rattle.std.proofs.lemmas.List.{with_items_is}
use Rattle.std.proofs.lemmas.Result.{err_from_is_err_and}
use Rattle.whole_reads.specs.Front.{ReadsFront}
use Rattle.whole_reads.proofs.Reading.{reading_none, reading_whole, full_room, front_all, front_fault}
use Rattle.whole_reads.proofs.front.read_front.Goals as goal

pub loop-bytes-init : goal.loop-bytes-init
loop-bytes-init g c = record { reading = reading_none _ _ _ c.new-bytes.ensures.items; ends = refl }

pub loop-bytes-preserved : goal.loop-bytes-preserved
loop-bytes-preserved g c =
    let slice = c.as_mut_slice.ensures.value in
    let same = ap length slice in
    let items : (with_items c.extend.new.bytes c.fill.new.room).items ≡ c.fill.new.room =
    with_items_is c.extend.new.bytes c.fill.new.room (omega arith) in
    let from = c.len-from.result in
    let f = c.in_ok-end.ensures in
    let filled = f.answer.0 in
    let bound = f.bound in
    let most = c.in_ok-extend.ensures.bounded in
    record {
      reading = reading_whole _ _ _ _ c.loop-bytes.bytes.items _ _ _ _ _ c.loop-bytes.invariant.reading
          (ap (take from) slice ∙ ap (λ n. take n c.extend.new.bytes.items) c.len-from.ensures ∙ c.in_ok-extend.ensures.kept)
          f (omega (arith, most)) (omega (arith, filled)) items;
      ends = full_room _ _ _ _ _ f.ends c.loop-bytes.invariant.ends (omega (arith, filled));
    }

pub returns-in_err-end : goal.returns-in_err-end
returns-in_err-end g c =
    let slice = c.as_mut_slice.ensures.value in
    let same = ap length slice in
    let most = c.in_ok-extend.ensures.bounded in
    let p = err_from_is_err_and c.from_residual-in_err-end.result c.from_residual-in_err-end.ensures.1 in
    subst (λ r. ReadsFront (g.S.Source.ends c.args.source.now) c.args.most r (g.S.Source.ends c.fill.new.source)) (sym (p.1 ∙ ap Err p.2))
    (front_fault _ _ _ _ c.loop-bytes.bytes.items _ _ _ _ c.loop-bytes.invariant.reading c.loop-bytes.invariant.ends (omega arith) (omega (arith, most)) c.in_err-end.ensures)

pub returns : goal.returns
returns g c = front_all _ _ _ _ c.loop-bytes.invariant.reading c.loop-bytes.invariant.ends (omega arith)
