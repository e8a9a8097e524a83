use Rattle.std.proofs.Common.{◌≡◌, ◌-◌, ◌∙◌, ap, sym, subst, length, arith, length-take}
use Rattle.sink_replies.specs.Reads.{Skips}
use Rattle.sink_replies.proofs.ReadLaws.{skipped_held, skipped_read}
use Rattle.sink_replies.proofs.reader.ReplyReader.skip_body.Goals as goal

pub returns-then-len-self-clause-skips : goal.returns-then-len-self-clause-skips
returns-then-len-self-clause-skips g c =
    let many : length c.args.self.now ≡ c.self.inside.filled =
    ap length (sym c.self.view_is) ∙ simp length-take (omega arith) in
    skipped_held c.args.self.now c.advance.new.self _ c.args.len _ (omega (arith, many)) c.advance.ensures

pub returns-clause-skips : goal.returns-clause-skips
returns-clause-skips g c =
    let many : length c.args.self.now ≡ c.self.inside.filled =
    ap length (sym c.self.view_is) ∙ simp length-take (omega arith) in
    skipped_read c.args.self.now _ _ c.args.len c.skip.result (omega (arith, many))
    (subst (λ n. Skips (g.L.Link.ends c.args.link.now).incoming (c.args.len - n) c.skip.result (g.L.Link.ends c.skip.new.link).incoming)
    (sym many) c.skip.ensures.skips)
