-- Histories keep worlds valid.
use Rattle.std.proofs.Common.{◌<◌, ℕ, ℤ, ◌≤ℤ◌, List, [], ◌∷◌, inl, inr, sym, ◌∙◌, subst, length, arith}
use Rattle.std.specs.List.{All}
use Rattle.std.proofs.lemmas.List.{length-map}
use Rattle.std.proofs.lemmas.List.Elements.{All-append, All-weaker}
use Rattle.std.proofs.lemmas.Option.{slice_get_within}
use Rattle.artifacts.specs.declared.artifact.Artifact.{Artifact}
use Rattle.artifacts.specs.Orders.{invocation_of}
use Rattle.invocations.specs.declared.invocation.Invocation.{Invocation}
use Rattle.invocations.specs.Rows.{ids_of}
use Rattle.test_results.specs.declared.exoneration.TestExoneration.{TestExoneration}
use Rattle.test_results.specs.declared.result.TestResult.{TestResult}
use Rattle.call_forms.specs.declared.forms.Standin.TheVariants.{Unavailable, Memory, Spent}
use Rattle.call_forms.specs.declared.forms.Told.{Told}
use Rattle.call_forms.specs.declared.forms.Told.TheVariants.{Made, Standin as Instead}
use Rattle.invocation_world.specs.World.{IsCallMoment}
use Rattle.invocation_world.specs.World as worlds
use Rattle.service_core.specs.RequestDemands.Settings.{Settings, HasNames}
use Rattle.service_effects.specs.declared.effect.Effect.{Effect}
use Rattle.service_effects.specs.declared.effect.Effect.TheVariants as does
use Rattle.service_effects.specs.Effects.{artifacts_after}
use Rattle.service_effects.specs.Fitting.{IsTimely}
use Rattle.service_effects.proofs.SoundLaws.{effect_sound}
use Rattle.service_effects.specs.Service.{AreArtifacts, AreExonerations, AreResults, IsSound, Recorded, ServiceWorld, recorded}
use Rattle.service_core.specs.Service.{CarriesDue, CatchesUp}
use Rattle.service_laws.specs.Validity.{IsValid, NamesItsHolder}
use Rattle.service_core.specs.History.{DoesNoMore, Entry, Leads, Tells}
use Rattle.service_core.proofs.HistoryLaws.{advanced_timely}
use Rattle.service_laws.specs.Laws.{LegalKeepsValid}
use Rattle.service_laws.proofs.HolderLaws.{NameTheirHolders}
use Rattle.service_laws.proofs.KeptLaws.{IsKeptWell, told_well, well_later}
use Rattle.service_laws.proofs.MoveLaws.{IsMoved, Moves, tells_moves}
use Rattle.service_laws.proofs.StayLaws.{AllStay, acted_stay, advance_stay, same_id, still_within}
use Rattle.service_laws.proofs.TableLaws.{due_lasts}

moved_sound : (s : Settings) (w : Recorded) (moment : ℤ) (after : Recorded) → HasNames s → IsSound w → IsTimely w.rows moment
    → IsMoved s w moment after → IsSound after
moved_sound s w moment after names sound timely (inl same) = subst IsSound (sym same) sound
moved_sound s w moment after names sound timely (inr done) =
    effect_sound w after moment done.effect sound timely (done.suits names timely) done.placed done.room done.made

-- deadlines leave results, exonerations and artifacts, and take no invocation away
due_sound : (w : Recorded) (moment : ℤ) (between : Recorded) → CarriesDue w moment between → IsSound w → IsCallMoment moment
    → w.rows.last ≤ℤ moment → IsSound between
due_sound w moment between due sound call later =
    let old = w.rows.invocations in
    let new = between.rows.invocations in
    let stay = advance_stay moment w.rows between.rows due.rows in
    let within : (p : ℕ) → p < length old → p < length new = λ p low. still_within old new p stay low in
    record {
      rows = (advanced_timely w.rows between.rows moment sound.rows call later due.rows).valid;
      results = subst (AreResults (length new)) (sym due.results) (record {
        table = sound.results.table;
        held = All-weaker (λ (r : TestResult). r.holder < length old) (λ (r : TestResult). r.holder < length new)
            (λ r low. within r.holder low) w.results sound.results.held;
      });
      exonerations = subst (AreExonerations (length new)) (sym due.exonerations) (record {
        table = sound.exonerations.table;
        held = All-weaker (λ (r : TestExoneration). r.holder < length old) (λ (r : TestExoneration). r.holder < length new)
            (λ r low. within r.holder low) w.exonerations sound.exonerations.held;
      });
      artifacts = subst (AreArtifacts (length new)) (sym due.artifacts) (record {
        table = sound.artifacts.table;
        held = All-weaker (λ (r : Artifact). r.holder < length old) (λ (r : Artifact). r.holder < length new)
            (λ r low. within r.holder low) w.artifacts sound.artifacts.held;
      });
    }

moves_sound : (s : Settings) (w : Recorded) (moment : ℤ) (after : Recorded) → HasNames s → IsSound w → IsCallMoment moment
    → w.rows.last ≤ℤ moment → Moves s w moment after → IsSound after
moves_sound s w moment after names sound call later h =
    moved_sound s h.between moment after names (due_sound w moment h.between h.due sound call later)
    (advanced_timely w.rows h.between.rows moment sound.rows call later h.due.rows) h.moved

-- ---- names of artifacts

abbrev AllNamed : List Invocation → List Artifact → Type 0
AllNamed rows files = All (NamesItsHolder rows) files

pub named_still : (old new : List Invocation) (row : Artifact) → AllStay old new → NamesItsHolder old row → NamesItsHolder new row
named_still old new row stay at =
    let within : row.holder < length (ids_of old) = slice_get_within (ids_of old) row.holder (invocation_of row.name.parent) at in
    same_id old new row.holder stay (omega (arith, within, length-map old (λ (r : Invocation). r.id))) ∙ at

named_later : (old new : List Invocation) (files : List Artifact) → AllStay old new → AllNamed old files → AllNamed new files
named_later old new files stay named =
    All-weaker (NamesItsHolder old) (NamesItsHolder new) (λ row at. named_still old new row stay at) files named

-- those of an effect stand behind the others
effect_keeps_named : (old new : List Invocation) (effect : Effect) (files : List Artifact) → AllStay old new → AllNamed old files
    → NameTheirHolders old effect → AllNamed new (artifacts_after effect files)
effect_keeps_named old new does.Nothing files stay named more = named_later old new files stay named
effect_keeps_named old new (does.Add row) files stay named more = named_later old new files stay named
effect_keeps_named old new (does.Update place deadline tags) files stay named more = named_later old new files stay named
effect_keeps_named old new (does.End place) files stay named more = named_later old new files stay named
effect_keeps_named old new (does.Include plan) files stay named more = named_later old new files stay named
effect_keeps_named old new (does.Results batch) files stay named more = named_later old new files stay named
effect_keeps_named old new (does.Exonerations batch) files stay named more = named_later old new files stay named
effect_keeps_named old new (does.Artifacts batch) files stay named more =
    All-append (NamesItsHolder new) files batch.rows (named_later old new files stay named) (named_later old new batch.rows stay more)

abbrev IsNamed : Recorded → Type 0
IsNamed w = AllNamed w.rows.invocations w.artifacts

moved_named : (s : Settings) (w : Recorded) (moment : ℤ) (after : Recorded) → IsMoved s w moment after → IsNamed w → IsNamed after
moved_named s w moment after (inl same) named = subst IsNamed (sym same) named
moved_named s w moment after (inr done) named =
    subst (AllNamed after.rows.invocations) (sym done.made.artifacts)
    (effect_keeps_named w.rows.invocations after.rows.invocations done.effect w.artifacts
    (acted_stay w.rows moment done.effect after.rows done.made.rows) named done.named)

moves_named : (s : Settings) (w : Recorded) (moment : ℤ) (after : Recorded) → Moves s w moment after → IsNamed w → IsNamed after
moves_named s w moment after h named =
    moved_named s h.between moment after h.moved
    (subst (AllNamed h.between.rows.invocations) (sym h.due.artifacts)
    (named_later w.rows.invocations h.between.rows.invocations w.artifacts (advance_stay moment w.rows h.between.rows h.due.rows) named))

leads_named : (s : Settings) (w : ServiceWorld) (e : Entry) (after : ServiceWorld) → Leads s w e after → IsNamed (recorded w)
    → IsNamed (recorded after)
leads_named s w e after leads named =
    elim (tells_moves s w e e.told after leads.tells) [
      | inl same ↦ subst (λ (v : ServiceWorld). IsNamed (recorded v)) (sym same) named
      | inr moves ↦ moves_named s (recorded w) e.moment (recorded after) moves named
    ]

-- what is kept is well kept by each entry
caught_well : (w : ServiceWorld) (moment : ℤ) (after : ServiceWorld) → CatchesUp w moment after → IsKeptWell (recorded w) w.kept
    → IsKeptWell (recorded after) after.kept
caught_well w moment after due well =
    subst (IsKeptWell (recorded after)) (sym due.kept)
    (well_later (recorded w) (recorded after) w.kept (due_lasts (recorded w) moment (recorded after) due.due) well)

no_more_well : (w : ServiceWorld) (moment : ℤ) (after : ServiceWorld) → DoesNoMore w moment after → IsKeptWell (recorded w) w.kept
    → IsKeptWell (recorded after) after.kept
no_more_well w moment after (inl same) well = subst (λ (v : ServiceWorld). IsKeptWell (recorded v) v.kept) (sym same) well
no_more_well w moment after (inr due) well = caught_well w moment after due well

tells_well : (s : Settings) (w : ServiceWorld) (e : Entry) (told : Told) (after : ServiceWorld) → HasNames s → worlds.IsValid w.rows
    → IsCallMoment e.moment → w.rows.last ≤ℤ e.moment → Tells s w e told after → IsKeptWell (recorded w) w.kept
    → IsKeptWell (recorded after) after.kept
tells_well s w e (Made answer) after names valid call later step well =
    told_well s step.between e.moment e.asked after answer names
    (advanced_timely w.rows step.between.rows e.moment valid call later step.advances.due.rows) step.judged
    (caught_well w e.moment step.between step.advances well)
tells_well s w e (Instead Memory) after names valid call later no_more well = no_more_well w e.moment after no_more well
tells_well s w e (Instead Unavailable) after names valid call later told well = no_more_well w e.moment after told.no_more well
tells_well s w e (Instead Spent) after names valid call later never well = absurd never

leads_sound : (s : Settings) (w : ServiceWorld) (e : Entry) (after : ServiceWorld) → HasNames s → Leads s w e after → IsSound (recorded w)
    → IsSound (recorded after)
leads_sound s w e after names leads sound =
    elim (tells_moves s w e e.told after leads.tells) [
      | inl same ↦ subst (λ (v : ServiceWorld). IsSound (recorded v)) (sym same) sound
      | inr moves ↦ moves_sound s (recorded w) e.moment (recorded after) names sound leads.moment leads.later moves
    ]

pub leads_valid : (s : Settings) (w : ServiceWorld) (e : Entry) (after : ServiceWorld) → HasNames s → Leads s w e after → IsValid w → IsValid after
leads_valid s w e after names leads valid =
    let well = tells_well s w e e.told after names valid.sound.rows leads.moment leads.later leads.tells (record { alone = valid.alone; stand = valid.stand }) in
    record {
      sound = leads_sound s w e after names leads valid.sound;
      named = leads_named s w e after leads valid.named;
      alone = well.alone;
      stand = well.stand;
    }

pub legal_keeps_valid : LegalKeepsValid
legal_keeps_valid s w [] v names end valid = subst IsValid (sym end) valid
legal_keeps_valid s w (e ∷ h) v names legal valid =
    legal_keeps_valid s legal.0 h v names legal.2 (leads_valid s w e legal.0 names legal.1 valid)
