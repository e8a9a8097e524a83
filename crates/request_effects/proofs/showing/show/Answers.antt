use Rattle.std.proofs.Common.{sym, subst}
use Rattle.std.specs.Prelude.{IfOk}
use Rattle.service_effects.specs.States.{recorded_in}
use Rattle.request_effects.specs.declared.shows.Showing.{Showing}
use Rattle.request_effects.specs.declared.shows.Showing.TheVariants.{Result as OneResult, Results, Verdicts, Artifact as OneArtifact, Artifacts}
use Rattle.request_effects.specs.Answers.{Answers, Fits}
use Rattle.request_effects.specs.Shows.{Scene}
use Rattle.request_effects.proofs.AnswerLaws.{read_before}
use Rattle.request_effects.proofs.showing.show.Goals as goal

pub show_alike-requires-clause-own : goal.show_alike-requires-clause-own
show_alike-requires-clause-own c = subst (Fits (recorded_in c.args.tables.now) c.args.change.now.effect) c.in-Alike.is c.requires.fits

pub see_result-requires-clause-there : goal.see_result-requires-clause-there
see_result-requires-clause-there c =
    (subst (Fits (recorded_in c.args.tables.now) c.args.change.now.effect) c.in-Result.is c.requires.fits).1

pub see_results-requires-clause-roots : goal.see_results-requires-clause-roots
see_results-requires-clause-roots c =
    (subst (Fits (recorded_in c.args.tables.now) c.args.change.now.effect) c.in-Results.is c.requires.fits).1.0

pub see_results-requires-clause-size : goal.see_results-requires-clause-size
see_results-requires-clause-size c =
    (subst (Fits (recorded_in c.args.tables.now) c.args.change.now.effect) c.in-Results.is c.requires.fits).1.1

pub see_verdicts-requires-clause-roots : goal.see_verdicts-requires-clause-roots
see_verdicts-requires-clause-roots c =
    (subst (Fits (recorded_in c.args.tables.now) c.args.change.now.effect) c.in-Verdicts.is c.requires.fits).1.0

pub see_verdicts-requires-clause-size : goal.see_verdicts-requires-clause-size
see_verdicts-requires-clause-size c =
    (subst (Fits (recorded_in c.args.tables.now) c.args.change.now.effect) c.in-Verdicts.is c.requires.fits).1.1

pub returns-in-Alike-clause-answer : goal.returns-in-Alike-clause-answer
returns-in-Alike-clause-answer c = λ after makes.
    let scene : Scene = record { settings = record { policy = c.args.asker.now.policy.now }; world = after } in
    subst (λ (x : Showing). IfOk c.show_alike.result (Answers scene c.args.asker.now.caller x)) (sym c.in-Alike.is)
    (c.show_alike.ensures.answer after makes)

pub returns-in-Result-clause-answer : goal.returns-in-Result-clause-answer
returns-in-Result-clause-answer c = λ after makes.
    let w = recorded_in c.args.tables.now in
    let change = c.args.change.now in
    read_before (record { policy = c.args.asker.now.policy.now }) w after change.moment change.effect c.args.asker.now.caller c.args.showing.now
    (OneResult c.in-Result.place) c.see_result.result c.requires.timely (subst (Fits w change.effect) c.in-Result.is c.requires.fits).0
    c.in-Result.is makes c.see_result.ensures

pub returns-in-Results-clause-answer : goal.returns-in-Results-clause-answer
returns-in-Results-clause-answer c = λ after makes.
    let w = recorded_in c.args.tables.now in
    let change = c.args.change.now in
    read_before (record { policy = c.args.asker.now.policy.now }) w after change.moment change.effect c.args.asker.now.caller c.args.showing.now
    (Results c.in-Results.query) c.see_results.result c.requires.timely (subst (Fits w change.effect) c.in-Results.is c.requires.fits).0
    c.in-Results.is makes c.see_results.ensures

pub returns-in-Verdicts-clause-answer : goal.returns-in-Verdicts-clause-answer
returns-in-Verdicts-clause-answer c = λ after makes.
    let w = recorded_in c.args.tables.now in
    let change = c.args.change.now in
    read_before (record { policy = c.args.asker.now.policy.now }) w after change.moment change.effect c.args.asker.now.caller c.args.showing.now
    (Verdicts c.in-Verdicts.query) c.see_verdicts.result c.requires.timely (subst (Fits w change.effect) c.in-Verdicts.is c.requires.fits).0
    c.in-Verdicts.is makes c.see_verdicts.ensures

pub see_artifact-requires : goal.see_artifact-requires
see_artifact-requires c =
    (subst (Fits (recorded_in c.args.tables.now) c.args.change.now.effect) c.in-Artifact.is c.requires.fits).1

pub returns-in-Artifact-clause-answer : goal.returns-in-Artifact-clause-answer
returns-in-Artifact-clause-answer c = λ after makes.
    let w = recorded_in c.args.tables.now in
    let change = c.args.change.now in
    read_before (record { policy = c.args.asker.now.policy.now }) w after change.moment change.effect c.args.asker.now.caller c.args.showing.now
    (OneArtifact c.in-Artifact.place) c.see_artifact.result c.requires.timely (subst (Fits w change.effect) c.in-Artifact.is c.requires.fits).0
    c.in-Artifact.is makes c.see_artifact.ensures

pub returns-in-Artifacts-clause-answer : goal.returns-in-Artifacts-clause-answer
returns-in-Artifacts-clause-answer c = λ after makes.
    let w = recorded_in c.args.tables.now in
    let change = c.args.change.now in
    read_before (record { policy = c.args.asker.now.policy.now }) w after change.moment change.effect c.args.asker.now.caller c.args.showing.now
    (Artifacts c.in-Artifacts.query) c.see_artifacts.result c.requires.timely (subst (Fits w change.effect) c.in-Artifacts.is c.requires.fits).0
    c.in-Artifacts.is makes c.see_artifacts.ensures
