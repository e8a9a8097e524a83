use Rattle.std.proofs.Common.{◌+◌, ◌∙◌, ap, arith}
use Rattle.trial_callers.specs.Counting.{one_if}
use Rattle.trial_callers.proofs.AskingLaws.{created_more}
use Rattle.trial_callers.proofs.asking.create_all.Goals as goal

pub loop-index-preserved : goal.loop-index-preserved
loop-index-preserved g c =
    let i = c.loop-index.invariant in
    let old = c.loop-index.heard in
    let h = c.with_call-heard.ensures in
    record {
      created = created_more g.T.Teller.stands c.args.teller.now c.loop-index.teller c.ask-last.new.teller old c.with_call-heard.result
          c.loop-index.last c.ask-last.result _ i.created c.ask-last.ensures.asked h.calls
          (h.turns ∙ ap (λ b. old.turns + one_if b) c.had_turn.ensures) (h.created ∙ ap (λ b. old.created + one_if b) c.is_accepted.ensures) h.own;
      again = c.ask-last.ensures.again;
      most = let m = i.most in let calls = h.calls in omega (arith, m, calls);
    }
