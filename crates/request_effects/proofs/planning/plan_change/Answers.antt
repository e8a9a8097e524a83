use Rattle.std.proofs.Common.{◌≡◌, ◌<◌, ◌≢◌, ℕ, List, Option, Some, length, refl, sym, ap, ◌∙◌, subst}
use Rattle.std.specs.Prelude.{IfOk, IfSome}
use Rattle.std.specs.List.{All}
use Rattle.std.proofs.lemmas.Result.{IfOk-weaker}
use Rattle.request_rules.specs.MessageForms.declared.requests.Request.{Request}
use Rattle.request_rules.specs.MessageForms.declared.requests.Request.TheVariants as asks
use Rattle.artifacts.specs.declared.new_artifact.NewArtifact.{NewArtifact}
use Rattle.test_results.specs.declared.exoneration.TestExoneration.{TestExoneration}
use Rattle.test_results.specs.declared.result.TestResult.{TestResult}
use Rattle.test_results.specs.Batches as results
use Rattle.test_results.specs.Exonerations as exonerations
use Rattle.request_rules.specs.Named.{place_named, places_named}
use Rattle.request_effects.specs.Effects.{artifacts_at, effect_of, exonerations_at, include_at, results_at}
use Rattle.request_effects.specs.Places.{held_in}
use Rattle.request_effects.specs.Planned.{AreEdgesPlanned, IsPlanned, IsSafe}
use Rattle.service_effects.specs.declared.effect.Effect.{Effect}
use Rattle.service_effects.specs.declared.effect.Effect.TheVariants as does
use Rattle.service_effects.specs.Planned.{IsRoomPlanned}
use Rattle.service_effects.specs.States.{recorded_in}
use Rattle.request_effects.proofs.DoneFacts.{batch_planned, end_ready, inclusions_planned, update_ready}
use Rattle.request_effects.proofs.PlaceFacts.{batch_named, first_named, first_within, places_elsewhere, places_within, targets_named}
use Rattle.request_effects.proofs.SafeLaws.{is_still_active, not_among_included, suits}
use Rattle.request_effects.proofs.planning.plan_change.Goals as goal

pub update_of-requires : goal.update_of-requires
update_of-requires c =
    let rows = c.args.tables.now.world.world.invocations in
    first_within rows c.in-UpdateInvocation.q.id c.first-first.result
    (first_named c.args.context.now.located.now rows (held_in (recorded_in c.args.tables.now)) c.args.request (asks.UpdateInvocation c.in-UpdateInvocation.q) c.first-first.result
    c.requires.located c.in-UpdateInvocation.is c.first-first.ensures)

pub returns-in-UpdateInvocation-clause-planned : goal.returns-in-UpdateInvocation-clause-planned
returns-in-UpdateInvocation-clause-planned c =
    let q = c.in-UpdateInvocation.q in
    let first = first_named c.args.context.now.located.now c.args.tables.now.world.world.invocations (held_in (recorded_in c.args.tables.now)) c.args.request (asks.UpdateInvocation q)
    c.first-first.result c.requires.located c.in-UpdateInvocation.is c.first-first.ensures in
    update_ready c.args.tables.now c.args.context.now.moment c.args.context.now.name.now c.args.request q
    c.in_ok-update_of-in-UpdateInvocation.field-0 c.first-first.result c.requires.timely c.requires.safe c.in-UpdateInvocation.is
    c.in_ok-update_of-in-UpdateInvocation.ensures first

pub end_of-requires : goal.end_of-requires
end_of-requires c =
    let rows = c.args.tables.now.world.world.invocations in
    first_within rows c.in-FinalizeInvocation.field-0.id c.first-first.result
    (first_named c.args.context.now.located.now rows (held_in (recorded_in c.args.tables.now)) c.args.request (asks.FinalizeInvocation c.in-FinalizeInvocation.field-0)
    c.first-first.result c.requires.located c.in-FinalizeInvocation.is c.first-first.ensures)

pub returns-in-FinalizeInvocation-clause-planned : goal.returns-in-FinalizeInvocation-clause-planned
returns-in-FinalizeInvocation-clause-planned c =
    let q = c.in-FinalizeInvocation.field-0 in
    let first = first_named c.args.context.now.located.now c.args.tables.now.world.world.invocations (held_in (recorded_in c.args.tables.now)) c.args.request (asks.FinalizeInvocation q)
    c.first-first.result c.requires.located c.in-FinalizeInvocation.is c.first-first.ensures in
    end_ready c.args.tables.now c.args.context.now.moment c.args.context.now.name.now c.args.request q c.end_of.result c.first-first.result
    c.requires.timely c.requires.safe c.in-FinalizeInvocation.is c.end_of.ensures first

pub plan_edges-requires-clause-active : goal.plan_edges-requires-clause-active
plan_edges-requires-clause-active c =
    let w = c.args.tables.now.world.world in
    let q = c.in-UpdateIncludedInvocations.field-0 in
    let request : Request = asks.UpdateIncludedInvocations q in
    let first = first_named c.args.context.now.located.now w.invocations (held_in (recorded_in c.args.tables.now)) c.args.request request c.first-first.result c.requires.located
    c.in-UpdateIncludedInvocations.is c.first-first.ensures in
    is_still_active w c.args.context.now.moment c.args.context.now.name.now request q.including c.in-Some.place
    (subst (IsSafe w c.args.context.now.moment c.args.context.now.name.now) c.in-UpdateIncludedInvocations.is c.requires.safe) refl
    (sym first ∙ c.in-Some.is)

pub plan_edges-requires-clause-there : goal.plan_edges-requires-clause-there
plan_edges-requires-clause-there c =
    let w = c.args.tables.now.world.world in
    let q = c.in-UpdateIncludedInvocations.field-0 in
    let targets = c.as_slice.ensures.value
    ∙ targets_named c.args.context.now.located.now w.invocations (held_in (recorded_in c.args.tables.now)) c.args.request (asks.UpdateIncludedInvocations q)
    c.in_ok-targets-in-Some.targets.items c.requires.located c.in-UpdateIncludedInvocations.is c.in_ok-targets-in-Some.ensures in
    subst (All (λ target. target < length w.invocations)) (sym targets) (places_within w.invocations q.add)

pub plan_edges-requires-clause-elsewhere : goal.plan_edges-requires-clause-elsewhere
plan_edges-requires-clause-elsewhere c =
    let w = c.args.tables.now.world.world in
    let q = c.in-UpdateIncludedInvocations.field-0 in
    let request : Request = asks.UpdateIncludedInvocations q in
    let first = first_named c.args.context.now.located.now w.invocations (held_in (recorded_in c.args.tables.now)) c.args.request request c.first-first.result c.requires.located
    c.in-UpdateIncludedInvocations.is c.first-first.ensures in
    let targets = c.as_slice.ensures.value
    ∙ targets_named c.args.context.now.located.now w.invocations (held_in (recorded_in c.args.tables.now)) c.args.request request c.in_ok-targets-in-Some.targets.items
    c.requires.located c.in-UpdateIncludedInvocations.is c.in_ok-targets-in-Some.ensures in
    subst (All (λ target. target ≢ c.in-Some.place)) (sym targets)
    (places_elsewhere w.invocations q.including c.in-Some.place q.add (sym first ∙ c.in-Some.is)
    (not_among_included w c.args.context.now.moment c.args.context.now.name.now request q.including
    (subst (IsSafe w c.args.context.now.moment c.args.context.now.name.now) c.in-UpdateIncludedInvocations.is c.requires.safe) refl))

pub returns-in-Some-clause-planned : goal.returns-in-Some-clause-planned
returns-in-Some-clause-planned c =
    let w = c.args.tables.now.world.world in
    let moment = c.args.context.now.moment in
    let name = c.args.context.now.name.now in
    let q = c.in-UpdateIncludedInvocations.field-0 in
    let request : Request = asks.UpdateIncludedInvocations q in
    let first = first_named c.args.context.now.located.now w.invocations (held_in (recorded_in c.args.tables.now)) c.args.request request c.first-first.result c.requires.located
    c.in-UpdateIncludedInvocations.is c.first-first.ensures in
    let targets = c.as_slice.ensures.value
    ∙ targets_named c.args.context.now.located.now w.invocations (held_in (recorded_in c.args.tables.now)) c.args.request request c.in_ok-targets-in-Some.targets.items
    c.requires.located c.in-UpdateIncludedInvocations.is c.in_ok-targets-in-Some.ensures in
    let effect = include_at w (places_named w.invocations q.add) (place_named w.invocations q.including) in
    subst (λ (r : Request). IfOk c.plan_edges.result (IsPlanned c.plan_edges.new.tables moment (effect_of (recorded_in c.args.tables.now) moment name r)))
    (sym c.in-UpdateIncludedInvocations.is)
    (IfOk-weaker c.plan_edges.result (AreEdgesPlanned c.plan_edges.new.tables c.in-Some.place c.as_slice.result.now)
    (IsPlanned c.plan_edges.new.tables moment effect)
    (λ p is.
    inclusions_planned w c.plan_edges.new.tables moment q.add (place_named w.invocations q.including) c.in-Some.place
    c.as_slice.result.now p c.plan_edges.ensures.roomier.world.world c.requires.timely
    (suits (recorded_in c.args.tables.now) moment name request c.requires.timely (subst (IsSafe w moment name) c.in-UpdateIncludedInvocations.is c.requires.safe))
    (sym first ∙ c.in-Some.is) targets is)
    c.plan_edges.ensures.planned)

pub plan_results-requires-clause-there : goal.plan_results-requires-clause-there
plan_results-requires-clause-there c =
    let rows = c.args.tables.now.world.world.invocations in
    let q = c.in-BatchCreateTestResults.q in
    subst (λ (o : Option ℕ). IfSome o (λ at. at < length rows)) c.in-Some-first.is
    (first_within rows q.invocation c.first-first.result
    (first_named c.args.context.now.located.now rows (held_in (recorded_in c.args.tables.now)) c.args.request (asks.BatchCreateTestResults q) c.first-first.result c.requires.located
    c.in-BatchCreateTestResults.is c.first-first.ensures))

pub plan_results-requires-clause-some : goal.plan_results-requires-clause-some
plan_results-requires-clause-some c none =
    let w = c.args.tables.now.world.world in
    let safe = subst (IsSafe w c.args.context.now.moment c.args.context.now.name.now) c.in-BatchCreateTestResults.is c.requires.safe in
    safe.forms.some (sym c.into_vec.ensures ∙ none)

pub returns-in-Some-first-clause-planned : goal.returns-in-Some-first-clause-planned
returns-in-Some-first-clause-planned c =
    let w = recorded_in c.args.tables.now in
    let moment = c.args.context.now.moment in
    let name = c.args.context.now.name.now in
    let q = c.in-BatchCreateTestResults.q in
    let holder = c.in-Some-first.holder in
    let shape : Request = asks.BatchCreateTestResults q in
    let first = first_named c.args.context.now.located.now w.rows.invocations (held_in (recorded_in c.args.tables.now)) c.args.request shape c.first-first.result c.requires.located
    c.in-BatchCreateTestResults.is c.first-first.ensures in
    let at : place_named w.rows.invocations q.invocation ≡ Some holder = sym first ∙ c.in-Some-first.is in
    let effect : Effect = does.Results (results.given holder c.into_vec.result.items) in
    IfOk-weaker c.plan_results.result (IsRoomPlanned c.plan_results.new.tables effect)
    (IsPlanned c.plan_results.new.tables moment (effect_of w moment name c.args.request))
    (λ p is.
    batch_planned w c.plan_results.new.tables moment name c.args.request shape effect p c.plan_results.ensures.roomier.world.world
    c.requires.timely c.requires.safe c.in-BatchCreateTestResults.is
    (ap (λ (rows : List TestResult). does.Results (results.given holder rows)) c.into_vec.ensures
    ∙ ap (λ (o : Option ℕ). results_at o q.requests) (sym at)) is)
    c.plan_results.ensures.planned

pub plan_exonerations-requires : goal.plan_exonerations-requires
plan_exonerations-requires c none =
    let w = c.args.tables.now.world.world in
    let safe = subst (IsSafe w c.args.context.now.moment c.args.context.now.name.now) c.in-BatchCreateTestExonerations.is c.requires.safe in
    safe.forms.some (sym c.into_vec-in-Some-first-2.ensures ∙ none)

pub returns-in-Some-first-2-clause-planned : goal.returns-in-Some-first-2-clause-planned
returns-in-Some-first-2-clause-planned c =
    let w = recorded_in c.args.tables.now in
    let moment = c.args.context.now.moment in
    let name = c.args.context.now.name.now in
    let q = c.in-BatchCreateTestExonerations.q in
    let holder = c.in-Some-first-2.holder in
    let shape : Request = asks.BatchCreateTestExonerations q in
    let first = first_named c.args.context.now.located.now w.rows.invocations (held_in (recorded_in c.args.tables.now)) c.args.request shape c.first-first.result c.requires.located
    c.in-BatchCreateTestExonerations.is c.first-first.ensures in
    let at : place_named w.rows.invocations q.invocation ≡ Some holder = sym first ∙ c.in-Some-first-2.is in
    let before = length (exonerations.places_in w.exonerations holder) in
    let effect : Effect = does.Exonerations (exonerations.given holder before c.into_vec-in-Some-first-2.result.items) in
    IfOk-weaker c.plan_exonerations.result (IsRoomPlanned c.plan_exonerations.new.tables effect)
    (IsPlanned c.plan_exonerations.new.tables moment (effect_of w moment name c.args.request))
    (λ p is.
    batch_planned w c.plan_exonerations.new.tables moment name c.args.request shape effect p
    c.plan_exonerations.ensures.roomier.world.world c.requires.timely c.requires.safe c.in-BatchCreateTestExonerations.is
    (ap (λ (rows : List TestExoneration). does.Exonerations (exonerations.given holder before rows)) c.into_vec-in-Some-first-2.ensures
    ∙ ap (λ (o : Option ℕ). exonerations_at w.exonerations o q.requests) (sym at)) is)
    c.plan_exonerations.ensures.planned

pub plan_files-requires : goal.plan_files-requires
plan_files-requires c none =
    let w = c.args.tables.now.world.world in
    let safe = subst (IsSafe w c.args.context.now.moment c.args.context.now.name.now) c.in-BatchCreateArtifacts.is c.requires.safe in
    safe.forms.some (sym c.into_vec-in-Some-first-3.ensures ∙ none)

pub returns-in-Some-first-3-clause-planned : goal.returns-in-Some-first-3-clause-planned
returns-in-Some-first-3-clause-planned c =
    let w = recorded_in c.args.tables.now in
    let moment = c.args.context.now.moment in
    let name = c.args.context.now.name.now in
    let q = c.in-BatchCreateArtifacts.q in
    let holder = c.in-Some-first-3.holder in
    let shape : Request = asks.BatchCreateArtifacts q in
    let first = first_named c.args.context.now.located.now w.rows.invocations (held_in w) c.args.request shape c.first-first.result c.requires.located
    c.in-BatchCreateArtifacts.is c.first-first.ensures in
    let at = sym (batch_named w.rows.invocations q.request_id q.requests) ∙ (sym first ∙ c.in-Some-first-3.is) in
    let effect : Effect = artifacts_at (Some holder) c.into_vec-in-Some-first-3.result.items in
    IfOk-weaker c.plan_files.result (IsRoomPlanned c.plan_files.new.tables effect)
    (IsPlanned c.plan_files.new.tables moment (effect_of w moment name c.args.request))
    (λ p is.
    batch_planned w c.plan_files.new.tables moment name c.args.request shape effect p c.plan_files.ensures.roomier.world.world
    c.requires.timely c.requires.safe c.in-BatchCreateArtifacts.is
    (ap (λ (news : List NewArtifact). artifacts_at (Some holder) news) c.into_vec-in-Some-first-3.ensures
    ∙ ap (λ (o : Option ℕ). artifacts_at o q.requests) (sym at)) is)
    c.plan_files.ensures.planned
