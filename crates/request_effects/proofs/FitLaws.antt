-- What a request shows is what its effect is about, or is there to be read.
use Rattle.std.proofs.Common.{◌≡◌, ◌<◌, ℕ, suc, ℤ, List, [], ◌∷◌, length, Option, Some, None, refl, sym, ap, ◌∙◌, subst, inl, inr, arith}
use Rattle.std.specs.Prelude.{◌==◌, ◌≢◌, min, slice_get}
use Rattle.std.proofs.lemmas.Bool.{cases_Bool, cond-false, cond-true, eqb-false}
use Rattle.std.proofs.lemmas.List.{length-map}
use Rattle.std.proofs.lemmas.Option.{slice_get_within}
use Rattle.artifacts.specs.declared.new_artifact.NewArtifact.{NewArtifact}
use Rattle.artifacts.specs.Batches as files
use Rattle.artifacts.specs.Orders.{invocation_of}
use Rattle.artifacts.specs.Requests.{artifact_of, digested}
use Rattle.artifact_pages.specs.ArtifactForms.declared.listed.ListArtifacts.{ListArtifacts}
use Rattle.names_realms.specs.declared.artifact_names.ArtifactName.{ArtifactName}
use Rattle.names_realms.specs.declared.pairs.Pair.{Pair}
use Rattle.names_realms.specs.declared.states.State.{State}
use Rattle.names_realms.specs.declared.states.State.TheVariants.{Active, Finalizing, Finalized}
use Rattle.invocations.specs.declared.invocation.Invocation.{Invocation}
use Rattle.invocations.specs.Rows.{states_of}
use Rattle.test_results.specs.declared.exoneration.TestExoneration.{TestExoneration}
use Rattle.test_results.specs.declared.result.TestResult.{TestResult}
use Rattle.test_results.specs.Batches as results
use Rattle.test_results.specs.Exonerations as exonerations
use Rattle.request_rules.specs.MessageForms.declared.requests.Request.{Request}
use Rattle.request_rules.specs.MessageForms.declared.requests.Request.TheVariants as asks
use Rattle.invocation_world.specs.World.{World}
use Rattle.invocation_world.specs.Changes.{is_update}
use Rattle.request_rules.specs.Named.{place_named, place_of_artifact, place_of_result}
use Rattle.request_rules.proofs.PlaceLaws.{place-within}
use Rattle.service_effects.specs.declared.effect.Effect.{Effect}
use Rattle.service_effects.specs.declared.effect.Effect.TheVariants as does
use Rattle.request_effects.specs.declared.shows.Showing.{Showing}
use Rattle.request_effects.specs.declared.shows.Showing.TheVariants.{Alike}
use Rattle.request_effects.specs.Answers.{Fits as ShowsFit}
use Rattle.names_realms.specs.declared.result_names.ResultName.{ResultName}
use Rattle.request_rules.specs.QueryForms.Sizes.{counted}
use Rattle.request_effects.proofs.PlaceFacts.{places_within}
use Rattle.request_rules.proofs.ArtifactPlaces.{artifact_stands}
use Rattle.request_rules.proofs.ResultPlaces.{result_stands}
use Rattle.request_effects.specs.Effects.{artifacts_at, effect_of, end_at, end_of, exonerations_at, place_of_batch, results_at, update_at, update_of}
use Rattle.request_effects.specs.Foreseen.{IsHere, IsOwn}
use Rattle.request_effects.specs.Shows.{artifacts_page, shows_artifact, shows_artifacts, shows_exonerations, shows_of, shows_result, shows_results, shows_row}
use Rattle.service_effects.specs.Service.{Recorded}

update_own : (w : World) (deadline : Option ℤ) (tags : Option (List Pair)) (p : ℕ) (o : Option Invocation) → p < length w.invocations
    → IsHere w (update_of deadline tags p o) p
update_own w deadline tags p None low = low
update_own w deadline tags p (Some row) low =
    elim (cases_Bool (is_update deadline tags row)) [
      | inl yes_ ↦ subst (λ (e : Effect). IsHere w e p) (sym (cond-true (is_update deadline tags row) (does.Update p deadline tags) does.Nothing yes_)) refl
      | inr no_ ↦ subst (λ (e : Effect). IsHere w e p) (sym (cond-false (is_update deadline tags row) (does.Update p deadline tags) does.Nothing no_)) low
    ]

end_own : (w : World) (p : ℕ) (o : Option State) → p < length w.invocations → IsHere w (end_of p o) p
end_own w p None low = low
end_own w p (Some Active) low = refl
end_own w p (Some Finalizing) low = low
end_own w p (Some Finalized) low = low

-- of a row that is found
found_own : (w : Recorded) (effect : Option ℕ → Effect) (o : Option ℕ) → ((p : ℕ) → o ≡ Some p → IsHere w.rows (effect (Some p)) p)
    → IsOwn w (effect o) (shows_row o)
found_own w effect None here = tt
found_own w effect (Some p) here = here p refl

-- of a batch: it shows the rows that it adds
results_own : (w : Recorded) (o : Option ℕ) (rows : List TestResult) → IsOwn w (results_at o rows) (shows_results w o (length rows))
results_own w None rows = tt
results_own w (Some holder) rows = (results.given holder rows, refl, (refl, sym (length-map rows (results.with_holder holder))))

pub length_given : (holder before : ℕ) (rows : List TestExoneration) → length rows ≡ length (exonerations.given holder before rows)
length_given holder before [] = refl
length_given holder before (row ∷ rows) = ap suc (length_given holder (suc before) rows)

exonerations_own : (w : Recorded) (o : Option ℕ) (rows : List TestExoneration)
    → IsOwn w (exonerations_at w.exonerations o rows) (shows_exonerations w o (length rows))
exonerations_own w None rows = tt
exonerations_own w (Some holder) rows =
    let before : ℕ = length (exonerations.places_in w.exonerations holder) in
    (exonerations.given holder before rows, refl, (refl, length_given holder before rows))

artifacts_own : (w : Recorded) (o : Option ℕ) (news : List NewArtifact) → IsOwn w (artifacts_at o news) (shows_artifacts w o (length news))
artifacts_own w None news = tt
artifacts_own w (Some holder) news = (
  files.of_holder holder (digested news),
  refl,
  (refl, sym (length-map (digested news).rows (files.with_holder holder) ∙ length-map news artifact_of)),
)

-- a size that counts is one at least
counted_some : (unsaid most size : ℕ) → 0 < unsaid → 0 < most → 0 < counted unsaid most size
counted_some unsaid most size some many =
    elim (cases_Bool (size == 0)) [
      | inl none ↦ subst (λ (n : ℕ). 0 < n) (sym (cond-true (size == 0) unsaid (min size most) none)) some
      | inr said ↦
          let other : size ≢ 0 = eqb-false size 0 said in
          subst (λ (n : ℕ). 0 < n) (sym (cond-false (size == 0) unsaid (min size most) said)) (omega arith)
    ]

-- a result that is named is there
result_fits : (w : Recorded) (name : ResultName) (o : Option ℕ) → place_of_result w.rows.invocations w.results name ≡ o
    → ShowsFit w does.Nothing (shows_result o)
result_fits w name None e = tt
result_fits w name (Some place) e = (refl, result_stands w.rows.invocations w.results name place e)

-- a row that is named is there, and so are pages
row_read : (w : Recorded) (id : List ℕ) → ShowsFit w does.Nothing (Alike (shows_row (place_named w.rows.invocations id)))
row_read w id = found_own w (λ o. does.Nothing) (place_named w.rows.invocations id) (λ p at. place-within w.rows.invocations id p at)

result_read : (w : Recorded) (name : ResultName) → ShowsFit w does.Nothing (shows_result (place_of_result w.rows.invocations w.results name))
result_read w name = result_fits w name (place_of_result w.rows.invocations w.results name) refl

-- an artifact that is named is there, and so is a page
artifact_fits : (w : Recorded) (name : ArtifactName) (o : Option ℕ) → place_of_artifact w.rows.invocations w.artifacts name ≡ o
    → ShowsFit w does.Nothing (shows_artifact o)
artifact_fits w name None e = tt
artifact_fits w name (Some place) e =
    let stands = artifact_stands w.rows.invocations w.artifacts name place e in
    (refl, slice_get_within w.artifacts place stands.0 stands.1)

artifact_read : (w : Recorded) (name : ArtifactName) → ShowsFit w does.Nothing (shows_artifact (place_of_artifact w.rows.invocations w.artifacts name))
artifact_read w name = artifact_fits w name (place_of_artifact w.rows.invocations w.artifacts name) refl

artifacts_read : (w : Recorded) (q : ListArtifacts) (o : Option ℕ) → ShowsFit w does.Nothing (artifacts_page o q)
artifacts_read w q None = tt
artifacts_read w q (Some holder) = (refl, tt)

rows_counted : (size : ℕ) → 0 < counted 100 1_000 size
rows_counted size = counted_some 100 1_000 size (omega arith) (omega arith)

verdicts_counted : (size : ℕ) → 0 < counted 100 10_000 size
verdicts_counted size = counted_some 100 10_000 size (omega arith) (omega arith)

-- What a request shows is what its effect is about; what only reads shows what is there.
pub shown_own : (w : Recorded) (moment : ℤ) (name : List ℕ) (request : Request) → ShowsFit w (effect_of w moment name request) (shows_of w request)
shown_own w moment name (asks.CreateInvocation q) = refl
shown_own w moment name (asks.UpdateInvocation q) =
    found_own w (update_at w.rows.invocations q.deadline q.tags) (place_named w.rows.invocations q.id)
    (λ p at. update_own w.rows q.deadline q.tags p (slice_get w.rows.invocations p) (place-within w.rows.invocations q.id p at))
shown_own w moment name (asks.FinalizeInvocation q) =
    found_own w (end_at w.rows.invocations) (place_named w.rows.invocations q.id)
    (λ p at. end_own w.rows p (slice_get (states_of w.rows.invocations) p) (place-within w.rows.invocations q.id p at))
shown_own w moment name (asks.BatchCreateTestResults q) = results_own w (place_named w.rows.invocations q.invocation) q.requests
shown_own w moment name (asks.BatchCreateTestExonerations q) = exonerations_own w (place_named w.rows.invocations q.invocation) q.requests
shown_own w moment name (asks.BatchCreateArtifacts q) = artifacts_own w (place_of_batch w.rows.invocations q.requests) q.requests
shown_own w moment name (asks.GetArtifact q) = artifact_read w q.name
shown_own w moment name (asks.ListArtifacts q) = artifacts_read w q (place_named w.rows.invocations (invocation_of q.parent))
shown_own w moment name _ = search (row_read, result_read, places_within, rows_counted, verdicts_counted)

pub own_as : (old new : Recorded) (moment : ℤ) (name : List ℕ) (request : Request) (effect : Effect) (shows : Showing) → new ≡ old
    → effect ≡ effect_of old moment name request → shows ≡ shows_of old request → ShowsFit new effect shows
own_as old new moment name request effect shows same effect_is shows_are =
    subst (λ (w : Recorded). ShowsFit w effect shows) (sym same)
    (subst (λ (e : Effect). ShowsFit old e shows) (sym effect_is)
    (subst (ShowsFit old (effect_of old moment name request)) (sym shows_are) (shown_own old moment name request)))
