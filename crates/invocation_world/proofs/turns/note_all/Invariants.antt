use Rattle.invocation_world.specs.Parts.{StayLinked}
use Rattle.invocation_world.proofs.turns.note_all.Given as goal

abbrev pub invariant-loop-turn : goal.invariant-loop-turn
invariant-loop-turn l = StayLinked l.table l.initial.finaliser l.table l.finaliser
