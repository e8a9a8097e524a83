use Rattle.std.proofs.Common.{List}
use Rattle.invocations.specs.declared.invocation.Invocation.{Invocation}
use Rattle.invocations.specs.Rows.{states_of}
use Rattle.invocation_world.specs.Parts.{StayLinked}
use Rattle.invocation_world.specs.Turns.{RunsTo, active_count}
use Rattle.invocation_world.proofs.turns.take_turns.Given as goal

abbrev pub invariant-turns : goal.invariant-turns
invariant-turns l = record {
  parts : StayLinked l.fn.table l.fn.finaliser l.table l.finaliser;
  runs : (after : List Invocation) → RunsTo l.fn.finaliser.graph.edges l.moment l.table.rows after
      → RunsTo l.fn.finaliser.graph.edges l.moment l.fn.table.rows after;
}

abbrev pub decreases-turns : goal.decreases-turns
decreases-turns l = active_count (states_of l.table.rows)
