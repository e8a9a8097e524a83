-- The command of a plan leads to the world that the plan makes.
use Rattle.std.proofs.Common.{subst}
use Rattle.service_replay.specs.ServiceCore.CoreState.{world_in}
use Rattle.service_replay.specs.ServiceCore.Plans.{Carries}
use Rattle.service_replay.proofs.ReplayLaws.{one_replay}
use Rattle.service_machine.specs.Leading.{carries_there, one_way}
use Rattle.service_machine.specs.Laws.{ReplayedIsCarried, ReplaysAreAlone}

pub replays_are_alone : ReplaysAreAlone
replays_are_alone w command after replays = record {
  replays = replays;
  alone = λ other also. one_replay w command other after also replays;
}

pub replayed_is_carried : ReplayedIsCarried
replayed_is_carried core p after fit plays =
    let there = carries_there (world_in core) p.plan in
    subst (Carries (world_in core) p.plan)
    (one_way (world_in core) p.command there.0 after (fit.leads there.0 there.1) plays) there.1
