use Rattle.std.proofs.Common.{[], map}
use Rattle.page_tokens.specs.declared.keys.KeyPart.TheVariants.{Plain}
use Rattle.page_tokens.proofs.KeyLemmas.{appends_more, next_held}
use Rattle.page_tokens.proofs.keys.append_parts.Goals as goal

pub bounds-held-i : goal.bounds-held-i
bounds-held-i c = (next_held c.loop-i.i c.args.parts.now c.args.held.now (Plain 0) (record { ref_ptr = (0, 0); now = [] }) c.loop-i.invariant.left c.loop-i-test.true).0

pub append_part-requires : goal.append_part-requires
append_part-requires c =
    (next_held c.loop-i.i c.args.parts.now c.args.held.now (Plain 0) (record { ref_ptr = (0, 0); now = [] }) c.loop-i.invariant.left c.loop-i-test.true).1.is

pub loop-i-preserved : goal.loop-i-preserved
loop-i-preserved c =
    let next = (next_held c.loop-i.i c.args.parts.now c.args.held.now (Plain 0) (record { ref_ptr = (0, 0); now = [] }) c.loop-i.invariant.left c.loop-i-test.true).1 in
    appends_more c.args.parts.now (map (λ h. h.now) c.args.held.now) c.args.key.now.items c.loop-i.key.items c.append_part.new.key.items _ _ c.loop-i.i
    c.loop-i.invariant next c.in_ok-append_part.ensures
