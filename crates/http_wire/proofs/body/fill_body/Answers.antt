use Rattle.std.proofs.Common.{◌≡◌, ◌≤◌, ◌∙◌, ◌+◌, arith, ap, sym, subst, length, take}
use Rattle.std.specs.Vec.{with_items}
use Rattle.std.proofs.lemmas.List.{with_items_is}
use Rattle.http_wire.proofs.BodyLaws.{Filling, filling_room, filling_more}
use Rattle.http_wire.proofs.body.fill_body.Goals as goal

pub loop-at-preserved : goal.loop-at-preserved
loop-at-preserved g c =
    let before = c.loop-at.invariant in
    let ok = c.in_ok-count.ensures in
    let at = c.loop-at.at in
    let now = c.read_at.new.room in
    let slice = c.as_mut_slice.ensures.value in
    let same = ap length slice in
    let items : (with_items c.make_room.new.body now).items ≡ now = with_items_is c.make_room.new.body now (omega arith) in
    let is = ap length items in
    let bounded = c.in_ok-make_room.ensures.bounded in
    let roomy = filling_room _ _ _ _ c.as_mut_slice.result.now _ before.filling (ap (take at) slice ∙ c.in_ok-make_room.ensures.kept) in
    record {
      within = subst (λ z. at + c.in_ok-count.count ≤ length z) (sym items) ok.read.bound;
      bounded = omega (arith, bounded, same, is);
      filling = subst (λ z. Filling c.args.body.now.items (g.L.Link.ends c.args.link.now).incoming (at + c.in_ok-count.count) z (g.L.Link.ends c.read_at.new.link).incoming) (sym items)
          (filling_more _ _ _ _ _ _ _ _ roomy ok.read c.if-count-eq0.false);
      only = ok.only ∙ before.only;
      holds = ok.holds ∙ before.holds;
    }
