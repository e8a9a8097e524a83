use Rattle.std.proofs.Common.{◌+◌, ◌∙◌, ap, arith}
use Rattle.trial_callers.specs.Counting.{one_if}
use Rattle.trial_callers.proofs.AskingLaws.{read_nothing, read_more}
use Rattle.trial_callers.proofs.asking.read_back.Goals as goal

pub loop-index-init : goal.loop-index-init
loop-index-init g c = record {
  read = read_nothing g.T.Teller.stands c.args.teller.now c.args.last.now c.args.heard;
  again = c.requires.stands;
  most = omega arith;
}

pub loop-index-preserved : goal.loop-index-preserved
loop-index-preserved g c =
    let i = c.loop-index.invariant in
    let old = c.loop-index.all in
    let h = c.with_call-all.ensures in
    record {
      read = read_more g.T.Teller.stands c.args.teller.now c.loop-index.teller c.ask-told.new.teller c.args.heard old c.with_call-all.result
          c.args.last.now c.ask-told.result _ i.read c.ask-told.ensures.asked h.calls
          (h.turns ∙ ap (λ b. old.turns + one_if b) c.had_turn.ensures) h.created (h.own ∙ ap (λ b. old.own + one_if b) c.shows_same.ensures);
      again = c.ask-told.ensures.again;
      most = let m = i.most in let calls = h.calls in omega (arith, m, calls);
    }
