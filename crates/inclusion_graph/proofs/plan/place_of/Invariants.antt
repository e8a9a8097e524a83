use Rattle.std.proofs.Common.{take}
use Rattle.inclusion_graph.specs.Plans.{IsElsewhere}
use Rattle.inclusion_graph.proofs.plan.place_of.Given as goal

abbrev pub invariant-loop-at : goal.invariant-loop-at
invariant-loop-at l = IsElsewhere l.number (take l.at l.numbers)
