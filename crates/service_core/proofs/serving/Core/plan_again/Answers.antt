use Rattle.std.proofs.Common.{ℕ, List, ◌+◌, ◌<◌, ◌^◌, sym, subst, rules}
use Rattle.kept_replies.specs.declared.reply.KeptReply.{KeptReply}
use Rattle.service_effects.specs.States.{recorded_in}
use Rattle.service_core.specs.Again.{IsFreeFor}
use Rattle.service_core.specs.CoreState.{PlanState}
use Rattle.service_core.specs.Plans.{CanKeep}
use Rattle.service_core.proofs.PlanLaws.{can_keep_again, never_placed, place_counted, placed_in}
use Rattle.service_core.proofs.serving.Core.plan_again.Goals as goal

pub returns-in-Some-clause-done : goal.returns-in-Some-clause-done
returns-in-Some-clause-done c = λ storable.
    absurd (never_placed _ c.args.self.now c.args.said.length _ c.self.view_is c.in-Some.ensures.some storable)

pub returns-in_ok-keep-in-None-clause-done : goal.returns-in_ok-keep-in-None-clause-done
returns-in_ok-keep-in-None-clause-done c =
    let storable = placed_in _ c.args.self.now c.ready.new.self c.args.said.length c.self.view_is c.ready.ensures.roomier c.in-None.ensures.none in (
      storable,
      search rules,
      search rules,
      record {
        made = search rules;
        can = search rules;
        keep = subst (λ (p : PlanState). CanKeep c.ready.new.self.keeps p.keep) (sym c.new.ensures)
            (can_keep_again (recorded_in c.args.self.now.held) c.args.context.now.name.now c.args.said.numbered c.args.effect c.ready.new.self.keeps c.in_ok-keep-in-None.keep
            c.in_ok-keep-in-None.ensures.keep
            (subst (λ (kept : List KeptReply). IsFreeFor kept c.args.context.now.name.now c.args.said.numbered)
            (sym c.ready.ensures.roomier.kept) c.requires.free) c.in_ok-keep-in-None.ensures.room);
        counted = subst (λ (p : PlanState). c.ready.new.self.stored + p.length < 2 ^ 64) (sym c.new.ensures)
            (place_counted c.ready.new.self.stored c.args.said.length c.requires.some storable);
      },
    )
