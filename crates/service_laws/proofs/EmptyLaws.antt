-- The world in which nothing is recorded is valid.
use Rattle.std.proofs.Common.{◌<◌, pos, [], arith}
use Rattle.std.proofs.lemmas.Int.{ints}
use Rattle.std.proofs.lemmas.List.Elements.{All-nil}
use Rattle.std.proofs.lemmas.Option.{none-some}
use Rattle.artifacts.specs.declared.artifact.Artifact.{Artifact}
use Rattle.artifacts.specs.Artifacts.{HasItsHash}
use Rattle.invocations.proofs.RowLemmas.{table_none}
use Rattle.test_results.specs.declared.exoneration.TestExoneration.{TestExoneration}
use Rattle.test_results.specs.declared.result.TestResult.{TestResult}
use Rattle.kept_replies.specs.declared.reply.KeptReply.{KeptReply}
use Rattle.names_realms.specs.declared.states.State.TheVariants.{Finalizing, Finalized}
use Rattle.invocation_world.specs.World.{IsInclusion, IsRow}
use Rattle.invocation_world.specs.World as worlds
use Rattle.service_effects.specs.Service.{AreArtifacts, AreExonerations, AreResults, empty_service, recorded}
use Rattle.service_laws.specs.Laws.{EmptyIsValid}
use Rattle.service_laws.specs.Validity.{NamesItsHolder, StandsIn}

no_rows : worlds.IsValid empty_service.rows
no_rows = record {
  table = table_none;
  last = (omega (arith, ints), omega (arith, ints));
  rows = All-nil (IsRow (pos 0));
  joined = All-nil (IsInclusion 0);
  once = λ i j d earlier within. absurd (omega (arith, within));
  few = omega arith;
  waiting = λ place is. absurd (none-some Finalizing is);
  ended = λ place is. absurd (none-some Finalized is);
}

no_results : AreResults 0 []
no_results = record {
  table = record { unique = λ key i j this that. absurd (none-some key this); few = λ holder. omega arith };
  held = All-nil (λ (row : TestResult). row.holder < 0);
}

no_exonerations : AreExonerations 0 []
no_exonerations = record {
  table = record { few = λ holder. omega arith; placed = λ at row here. absurd (none-some row here) };
  held = All-nil (λ (row : TestExoneration). row.holder < 0);
}

no_artifacts : AreArtifacts 0 []
no_artifacts = record {
  table = record {
    unique = λ key i j this that. absurd (none-some key this);
    few = λ holder. omega arith;
    hashed = All-nil HasItsHash;
  };
  held = All-nil (λ (row : Artifact). row.holder < 0);
}

pub empty_is_valid : EmptyIsValid
empty_is_valid = record {
  sound = record { rows = no_rows; results = no_results; exonerations = no_exonerations; artifacts = no_artifacts };
  named = All-nil (NamesItsHolder []);
  alone = λ place other reply again at. absurd (none-some reply at);
  stand = All-nil (λ (reply : KeptReply). StandsIn (recorded empty_service) reply.answer);
}
