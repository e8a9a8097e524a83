use Rattle.std.proofs.Common.{sym, subst}
use Rattle.std.specs.List.{All}
use Rattle.std.proofs.lemmas.List.Elements.{All-push}
use Rattle.policy_checks.specs.declared.permission.Permission.TheVariants.{CreateInvocation}
use Rattle.request_rules.specs.Askers.{IsHeldBy}
use Rattle.request_rules.proofs.RightLaws.{found_more}
use Rattle.request_rules.proofs.holdings.holdings_of.Goals as goal

pub loop-permission-preserved : goal.loop-permission-preserved
loop-permission-preserved c =
    let held = IsHeldBy c.args.policy.now c.args.caller in
    record {
      held = subst (All held) (sym c.in_ok-push.ensures.items) (All-push held _ _ c.loop-permission.invariant.held c.in_ok-of.ensures.held);
      asked = found_more (λ held. held.permission) _ _ _ c.args.asked.now c.loop-permission.permission-index CreateInvocation
          c.loop-permission-test.true c.loop-permission.invariant.asked c.in_ok-push.ensures.items c.in_ok-of.ensures.asked;
    }
