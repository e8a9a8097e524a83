-- How many rows of each kind a world has.
use Rattle.std.specs.Prelude.{Bool, true, false, length, count_by}
use Rattle.names_realms.specs.declared.states.State.{State}
use Rattle.names_realms.specs.declared.states.State.TheVariants.{Active, Finalizing, Finalized}
use Rattle.invocations.specs.declared.invocation.Invocation.{Invocation}
use Rattle.service_effects.specs.Service.{ServiceWorld}
use Rattle.service_core.specs.declared.counting.Counts.{Counts}

abbrev pub is_final_state : State → Bool
is_final_state Active = false
is_final_state Finalizing = false
is_final_state Finalized = true

abbrev pub is_finalized : Invocation → Bool
is_finalized row = is_final_state row.state

abbrev pub counts_of : ServiceWorld → Counts
counts_of w = record {
  invocations = length w.rows.invocations;
  finalized = count_by is_finalized w.rows.invocations;
  results = length w.results;
  exonerations = length w.exonerations;
  artifacts = length w.artifacts;
  kept = length w.kept;
}
