use Rattle.std.proofs.Common.{◌≡◌, ◌∙◌, length, min, arith, length-append, length-drop, length-take}
use Rattle.sink_replies.proofs.ReadLaws.{passing_more}
use Rattle.sink_replies.proofs.body.skip.Goals as goal

pub loop-left-preserved : goal.loop-left-preserved
loop-left-preserved g c =
    let inv = c.loop-left.invariant in
    let most = c.min-most.ensures in
    let kept : length c.read_into.new.room ≡ min c.min-most.result (length c.loop-left.room) =
    c.read_into.auto.room ∙ length-take c.min-most.result c.loop-left.room in
    record {
      passing = passing_more _ _ _ c.read_into.new.room _ c.loop-left.left _ inv.passing c.in_ok-left.ensures.read
          (omega (arith, kept, most));
      only = c.in_ok-left.ensures.only ∙ inv.only;
      holds = c.in_ok-left.ensures.holds ∙ inv.holds;
      room = let whole = inv.room in simp (length-append, length-drop) (omega (arith, kept, most, whole));
    }
