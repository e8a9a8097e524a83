use Rattle.std.specs.Prelude.{MatchOption}
use Rattle.std.proofs.Common.{subst}
use Rattle.permissions.specs.Cycle.{HasNoCycle, IsLeastCycle}
use Rattle.policy_reading.proofs.CycleLemmas.{no_cycle_back}
use Rattle.policy_reading.proofs.stages.cycle_fault.Goals as goal

pub unreachable-requires : goal.unreachable-requires
unreachable-requires c =
    no_cycle_back c.args.book.now c.args.graph.now c.requires.graph c.requires.back
    (subst (λ least. MatchOption least (HasNoCycle c.args.book.now) (λ name. IsLeastCycle c.args.book.now name)) c.in-Ok-None.field-0-is c.in-Ok-None.ensures)
