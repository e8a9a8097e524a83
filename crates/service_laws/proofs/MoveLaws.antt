-- What an entry does to what is recorded: due deadlines are carried out, and then nothing is done, or one effect.
use Rattle.std.proofs.Common.{◌≡◌, ◌⊎◌, ℤ, refl, ap, inl, inr}
use Rattle.call_forms.specs.declared.asked.Asked.{Asked}
use Rattle.call_forms.specs.declared.forms.Answer.{Answer}
use Rattle.call_forms.specs.declared.forms.Standin.TheVariants.{Unavailable, Memory, Spent}
use Rattle.call_forms.specs.declared.forms.Told.{Told}
use Rattle.call_forms.specs.declared.forms.Told.TheVariants.{Made, Standin as Instead}
use Rattle.service_core.specs.RequestDemands.Settings.{Settings, HasNames, caller_name}
use Rattle.service_core.specs.RequestDemands.Order.{IsUnbroken}
use Rattle.service_effects.specs.declared.effect.Effect.{Effect}
use Rattle.service_effects.specs.Effects.{Makes}
use Rattle.service_effects.specs.Fitting.{ArePlaced, IsTimely, Suits}
use Rattle.service_effects.specs.Refused.{EffectRefused}
use Rattle.service_effects.specs.Service.{Recorded, ServiceWorld, recorded}
use Rattle.service_core.specs.Service.{CarriesDue}
use Rattle.service_core.specs.Step.{IsTold, effect_for, performed, refused, repeated}
use Rattle.service_core.specs.History.{DoesNoMore, Entry, Tells}
use Rattle.service_core.proofs.ClearedLaws.{accepted_suits, effect_placed}
use Rattle.service_core.proofs.MessageForms.FormLaws.{asked_is_of_form}
use Rattle.service_laws.proofs.HolderLaws.{NameTheirHolders, effect_named}

-- One effect is done, which suits a world at whose moment nothing is due.
pub record IsDone (s : Settings) (w : Recorded) (moment : ℤ) (after : Recorded) : Type 0 where
  pub effect : Effect
  pub suits : HasNames s → IsTimely w.rows moment → Suits w.rows moment effect
  pub placed : ArePlaced w.exonerations effect
  pub named : NameTheirHolders w.rows.invocations effect
  pub room : IsUnbroken (EffectRefused w effect)
  pub made : Makes moment effect w after

abbrev pub IsMoved : Settings → Recorded → ℤ → Recorded → Type 0
IsMoved s w moment after = (after ≡ w) ⊎ IsDone s w moment after

pub told_moved : (s : Settings) (w : ServiceWorld) (moment : ℤ) (asked : Asked) (after : ServiceWorld) (answer : Answer)
    → IsTold s w moment asked after answer → IsMoved s (recorded w) moment (recorded after)
told_moved s w moment asked after answer (refused r) = inl (ap recorded r.same)
told_moved s w moment asked after answer (repeated r) = inl (ap recorded r.same)
told_moved s w moment asked after answer (performed p) =
    inr (record {
      effect = effect_for s w moment p.caller p.request;
      suits = λ names timely. accepted_suits s w moment asked p.caller p.request names timely p.accepted;
      placed = effect_placed s w moment p.caller p.request;
      named = effect_named (recorded w) moment (caller_name s p.caller) p.request
          (asked_is_of_form asked.service asked.method asked.body p.request p.accepted.new.wants.asks);
      room = p.accepted.room;
      made = p.acts.made;
    })

-- Due deadlines, and then at most one effect.
pub record Moves (s : Settings) (w : Recorded) (moment : ℤ) (after : Recorded) : Type 0 where
  pub between : Recorded
  pub due : CarriesDue w moment between
  pub moved : IsMoved s between moment after

no_more_moves : (s : Settings) (w : ServiceWorld) (moment : ℤ) (after : ServiceWorld) → DoesNoMore w moment after
    → (after ≡ w) ⊎ Moves s (recorded w) moment (recorded after)
no_more_moves s w moment after (inl same) = inl same
no_more_moves s w moment after (inr due) = inr (record { between = recorded after; due = due.due; moved = inl refl })

pub tells_moves : (s : Settings) (w : ServiceWorld) (e : Entry) (told : Told) (after : ServiceWorld)
    → Tells s w e told after → (after ≡ w) ⊎ Moves s (recorded w) e.moment (recorded after)
tells_moves s w e (Made answer) after step =
    inr (record {
      between = recorded step.between;
      due = step.advances.due;
      moved = told_moved s step.between e.moment e.asked after answer step.judged;
    })
tells_moves s w e (Instead Memory) after no_more = no_more_moves s w e.moment after no_more
tells_moves s w e (Instead Unavailable) after told = no_more_moves s w e.moment after told.no_more
tells_moves s w e (Instead Spent) after never = absurd never
