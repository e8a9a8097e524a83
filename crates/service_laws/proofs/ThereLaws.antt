-- Each request has a step in each world.
use Rattle.std.proofs.Common.{ℕ, ◌+◌, ℤ, Option, Some, None, inl, inr, refl}
use Rattle.call_forms.specs.declared.asked.Asked.{Asked}
use Rattle.call_forms.specs.declared.forms.Refusal.{Refusal}
use Rattle.call_forms.specs.Rules.{refusal_answer}
use Rattle.service_core.specs.MessageForms.declared.requests.Request.{Request}
use Rattle.invocation_world.proofs.ExistFacts.{advance_there, settling_there}
use Rattle.service_core.specs.RequestDemands.Settings.{Settings}
use Rattle.service_core.specs.RequestDemands.Order.{IsUnbroken}
use Rattle.kept_replies.specs.declared.reply.KeptReply.{KeptReply}
use Rattle.service_core.specs.RequestDemands.Alone.{Wants}
use Rattle.service_core.proofs.RequestDemands.Said.{said}
use Rattle.service_effects.specs.declared.effect.Effect.{Effect}
use Rattle.service_effects.specs.Effects.{artifacts_after, exonerations_after, results_after, with_effect}
use Rattle.service_effects.specs.Refused.{EffectRefused}
use Rattle.service_effects.specs.Service.{ServiceWorld, recorded}
use Rattle.service_core.specs.RequestEffects.Keeps.{kept_answer, with_kept}
use Rattle.service_core.specs.RequestEffects.Shows.{shows_of}
use Rattle.service_core.proofs.RequestEffects.AnswerLaws.{answer_there}
use Rattle.service_effects.specs.Storing.{IsStorable, stored_due}
use Rattle.service_effects.proofs.RefusedLaws.{refused_or_not}
use Rattle.service_effects.proofs.StoringLaws.{stored_or_not}
use Rattle.service_core.specs.Service.{CatchesUp}
use Rattle.service_core.specs.Step.{IsJudgedAs, IsNew, IsRefusal, IsRepeated, bytes_for, effect_for, keep_for, performed, refused, repeated, scene_of}
use Rattle.service_laws.specs.Laws.{HasStep, HasSteps}
use Rattle.service_laws.proofs.DecideLaws.{judged_as, repeated_or_fresh}

refused_there : (s : Settings) (w : ServiceWorld) (moment : ℤ) (asked : Asked) (between : ServiceWorld) (r : Refusal)
    → CatchesUp w moment between → IsRefusal s between moment asked r → HasStep s w moment asked
refused_there s w moment asked between r advances first = record {
  after = between;
  answer = refusal_answer r;
  step = record {
    between = between;
    advances = advances;
    judged = refused (record { refusal = r; is_refusal = first; same = refl; answer_is = refl });
  };
}

repeated_there : (s : Settings) (w : ServiceWorld) (moment : ℤ) (asked : Asked) (between : ServiceWorld) (caller : ℕ) (request : Request)
    (reply : KeptReply) → CatchesUp w moment between → Wants s asked caller request
    → IsRepeated s between moment asked caller request reply → HasStep s w moment asked
repeated_there s w moment asked between caller request reply advances wants again = record {
  after = between;
  answer = kept_answer (scene_of s between) reply.answer;
  step = record {
    between = between;
    advances = advances;
    judged = repeated (record {
      caller = caller;
      request = request;
      wants = wants;
      reply = reply;
      repeated = again;
      same = refl;
      answer_is = refl;
    });
  };
}

performed_there : (s : Settings) (w : ServiceWorld) (moment : ℤ) (asked : Asked) (between : ServiceWorld) (caller : ℕ) (request : Request)
    → CatchesUp w moment between → IsNew s between moment asked caller request
    → IsJudgedAs s between moment asked caller request None → IsUnbroken (EffectRefused (recorded between) (effect_for s between moment caller request))
    → IsStorable between.stored (bytes_for s between moment asked caller request) → HasStep s w moment asked
performed_there s w moment asked between caller request advances new judged room store =
    let effect : Effect = effect_for s between moment caller request in
    let settled = settling_there moment (with_effect moment effect between.rows) in
    let after : ServiceWorld = record {
      rows = settled.0;
      results = results_after effect between.results;
      exonerations = exonerations_after effect between.exonerations;
      artifacts = artifacts_after effect between.artifacts;
      kept = with_kept between.kept (keep_for s between moment asked caller request);
      stored = between.stored + bytes_for s between moment asked caller request;
    } in
    let shown = answer_there (scene_of s after) caller (shows_of (recorded between) request) in
    record {
      after = after;
      answer = shown.0;
      step = record {
        between = between;
        advances = advances;
        judged = performed (record {
          caller = caller;
          request = request;
          accepted = record { new = new; judged = judged; room = room; store = store };
          acts = record {
            made = record { rows = settled.1; results = refl; exonerations = refl; artifacts = refl };
            kept = refl;
            stored = refl;
          };
          answers = shown.1;
        });
      };
    }

judged_there : (s : Settings) (w : ServiceWorld) (moment : ℤ) (asked : Asked) (between : ServiceWorld) (caller : ℕ) (request : Request)
    (found : Option Refusal) → CatchesUp w moment between → IsNew s between moment asked caller request
    → IsJudgedAs s between moment asked caller request found → HasStep s w moment asked
judged_there s w moment asked between caller request (Some r) advances new judged =
    refused_there s w moment asked between r advances (inr (caller, request, new, inl judged))
judged_there s w moment asked between caller request None advances new judged =
    elim (refused_or_not (recorded between) (effect_for s between moment caller request)) [
      | inl full ↦ refused_there s w moment asked between full.0 advances (inr (caller, request, new, inr (judged, inl full.1)))
      | inr room ↦ elim (stored_or_not between.stored (bytes_for s between moment asked caller request)) [
        | inl over ↦ refused_there s w moment asked between over.0 advances (inr (caller, request, new, inr (judged, inr (room, over.1))))
        | inr store ↦ performed_there s w moment asked between caller request advances new judged room store
      ]
    ]

wanted_there : (s : Settings) (w : ServiceWorld) (moment : ℤ) (asked : Asked) (between : ServiceWorld) (caller : ℕ) (request : Request)
    → CatchesUp w moment between → Wants s asked caller request → HasStep s w moment asked
wanted_there s w moment asked between caller request advances wants =
    elim (repeated_or_fresh s between moment asked caller request) [
      | inl again ↦ repeated_there s w moment asked between caller request again.0 advances wants again.1
      | inr fresh ↦
          let judged = judged_as s between moment asked caller request in
          judged_there s w moment asked between caller request judged.0 advances (record { wants = wants; fresh = fresh }) judged.1
    ]

pub step_there : HasSteps
step_there s w moment asked =
    let due = advance_there moment w.rows in
    let between : ServiceWorld = record {
      rows = due.0;
      results = w.results;
      exonerations = w.exonerations;
      artifacts = w.artifacts;
      kept = w.kept;
      stored = stored_due due.1.deadlines w.stored;
    } in
    let advances : CatchesUp w moment between =
    record { due = record { rows = due.1; results = refl; exonerations = refl; artifacts = refl }; kept = refl; stored = refl } in
    elim (said s asked) [
      | inl h ↦ refused_there s w moment asked between h.0 advances (inl h.1)
      | inr h ↦ wanted_there s w moment asked between h.0 h.1 advances h.2
    ]
