use Rattle.std.proofs.Common.{sym, ◌∙◌}
use Rattle.invocation_world.proofs.SettleFacts.{settled_once}
use Rattle.invocation_world.proofs.WorldFacts.{same_world}
use Rattle.invocation_world.proofs.laws.settles_once.Goals as goal

pub returns : goal.returns
returns c = λ moment w v x s t.
    same_world v x (settled_once moment w.inclusions w.invocations v.invocations x.invocations s.rows t.rows)
    (s.inclusions ∙ sym t.inclusions) (s.last ∙ sym t.last)
