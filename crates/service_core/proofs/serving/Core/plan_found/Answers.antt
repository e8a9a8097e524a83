use Rattle.std.proofs.Common.{◌≡◌, ℕ, Result, ◌∙◌, ap, sym, subst}
use Rattle.std.proofs.lemmas.Result.{IfOk-weaker}
use Rattle.request_effects.specs.RequestDemands.Demands.{demand_of}
use Rattle.call_forms.specs.declared.forms.Answer.{Answer}
use Rattle.request_effects.specs.RequestDemands.Settings.{Settings}
use Rattle.request_effects.specs.RequestDemands.Understood.{length_for}
use Rattle.service_effects.specs.declared.effect.Effect.{Effect}
use Rattle.service_effects.specs.declared.effect.Planned.{Planned}
use Rattle.request_effects.specs.Effects.{effect_of}
use Rattle.request_effects.specs.Keeps.{kept_of}
use Rattle.request_effects.specs.Planned.{IsPlanned}
use Rattle.service_effects.specs.Fitting as effects
use Rattle.service_effects.specs.States.{recorded_in}
use Rattle.service_effects.specs.Storing.{IsStorable, bytes_of}
use Rattle.request_effects.specs.Shows.{shows_of}
use Rattle.request_effects.specs.Answers.{Fits as ShowsFit}
use Rattle.service_core.specs.CoreState.{CoreState}
use Rattle.service_core.specs.Planning.{IsPlaced}
use Rattle.request_effects.proofs.FitLaws.{own_as}
use Rattle.service_effects.proofs.RoomLaws.{same_recorded}
use Rattle.service_core.proofs.RoomLaws.{comes_as, found_in, refused_as, roomier_core}
use Rattle.service_core.proofs.serving.Core.plan_found.Goals as goal
use Rattle.service_core.proofs.serving.Core.plan_found.Goals.{in-Some-9, in-None-9}

pub with_answer-requires-clause-own : goal.with_answer-requires-clause-own
with_answer-requires-clause-own c =
    let w = recorded_in c.self.inside.tables in
    let ready = subst (λ (p : Planned). IsPlanned c.plan_change.new.tables c.args.moment (effect_of w c.args.moment c.name_of-name.result.now c.args.call.request) p)
    c.in-Ready.is c.in_ok-fault.ensures.planned in
    let placed = subst (λ (r : Result Effect Answer). IsPlaced c.self.inside.stored c.in-Ready.effect c.args.call.length r) c.in-Ok.is
    c.in_ok-answer-in-Ready.ensures in
    subst (λ (e : Effect). ShowsFit (recorded_in c.ready.new.self.held) e c.args.found.now.shows.now) (sym placed.0)
    (own_as w (recorded_in c.ready.new.self.held) c.args.moment c.name_of-name.result.now c.args.call.request c.in-Ready.effect
    c.args.found.now.shows.now (ap recorded_in c.ready.ensures.held ∙ same_recorded c.self.inside.tables c.plan_change.new.tables c.plan_change.ensures.roomier)
    ready.0 (c.requires.shows ∙ ap (λ (k : CoreState). shows_of (recorded_in k.held) c.args.call.request) (sym c.self.view_is)))

pub returns-in_ok-answer-in-Refused-clause-roomier : goal.returns-in_ok-answer-in-Refused-clause-roomier
returns-in_ok-answer-in-Refused-clause-roomier c = elim c.match-numbered-3.branch [
  | in-Some-9 w ↦ roomier_core c.args.self.now _ c.match-numbered-3.self c.plan_change.new.tables c.self.view_is w.self-is c.plan_change.ensures.roomier
  | in-None-9 w ↦ roomier_core c.args.self.now _ c.match-numbered-3.self c.plan_change.new.tables c.self.view_is w.self-is c.plan_change.ensures.roomier
]

pub returns-in-Err-clause-comes : goal.returns-in-Err-clause-comes
returns-in-Err-clause-comes c = λ asked is long.
    let s : Settings = record { policy = c.args.policy.now } in
    let name = c.name_of-name.result.now in
    let ready = subst (λ (p : Planned). IsPlanned c.plan_change.new.tables c.args.moment (effect_of (recorded_in c.self.inside.tables) c.args.moment name c.args.call.request) p)
    c.in-Ready.is c.in_ok-fault.ensures.planned in
    let refused = subst (λ (r : Result Effect Answer). IsPlaced c.self.inside.stored c.in-Ready.effect c.args.call.length r) c.in-Err.is
    c.in_ok-answer-in-Ready.ensures in (
      refused.0,
      refused_as s c.self.inside.tables c.plan_change.new.tables c.self.inside.stored c.args.moment asked c.args.call.caller c.args.call.request name
          c.in-Ready.effect c.args.call.length refused.0 c.name_of-name.ensures c.plan_change.ensures.roomier ready long refused.1,
      refused.2,
    )

pub returns-in_ok-keep-in-Ok-clause-comes : goal.returns-in_ok-keep-in-Ok-clause-comes
returns-in_ok-keep-in-Ok-clause-comes c = λ asked is long.
    let s : Settings = record { policy = c.args.policy.now } in
    let held = c.plan_change.new.tables in
    let core = c.ready.new.self in
    let name = c.name_of-name.result.now in
    let effect = c.in-Ok.effect in
    let keep = c.in_ok-keep-in-Ok.keep in
    let length = c.bytes_of-length.result in
    let first = subst (λ (p : Planned). IsPlanned held c.args.moment (effect_of (recorded_in c.self.inside.tables) c.args.moment name c.args.call.request) p)
    c.in-Ready.is c.in_ok-fault.ensures.planned in
    let placed = subst (λ (r : Result Effect Answer). IsPlaced c.self.inside.stored c.in-Ready.effect c.args.call.length r) c.in-Ok.is
    c.in_ok-answer-in-Ready.ensures in
    let ready = subst (λ (e : Effect). (e ≡ effect_of (recorded_in c.self.inside.tables) c.args.moment name c.args.call.request)
    × effects.Fits held c.args.moment e) (sym placed.0) first in
    let keep_is = c.in_ok-keep-in-Ok.ensures.keep ∙ ap (λ n. kept_of (recorded_in held) name n effect) (c.in_ok-numbered.ensures asked is) in
    let length_is : length ≡ bytes_of effect (length_for s asked c.args.call.caller) = c.bytes_of-length.ensures ∙ ap (bytes_of effect) long in
    let same : bytes_of c.in-Ready.effect c.args.call.length ≡ length =
    ap (λ (e : Effect). bytes_of e c.args.call.length) (sym placed.0) ∙ sym c.bytes_of-length.ensures in
    let storable : IsStorable core.stored length =
    subst (λ (n : ℕ). IsStorable n length) (sym c.ready.ensures.roomier.stored) (subst (IsStorable c.self.inside.stored) same placed.1) in
    let found = found_in s _ held core c.args.self.now c.args.moment asked c.args.call.caller c.args.call.request name c.name_of-name.ensures c.self.view_is
    c.plan_change.ensures.roomier c.ready.ensures.held effect ready keep keep_is c.in_ok-keep-in-Ok.ensures.room length length_is storable
    c.args.found.now.shows.now c.requires.shows in
    IfOk-weaker c.with_answer.result _ _
    (λ p shown.
    comes_as s core c.with_answer.new.self c.args.moment asked c.args.call.caller c.args.call.request effect keep length c.args.found.now.shows.now p found
    c.with_answer.ensures.roomier shown)
    c.with_answer.ensures.shown
