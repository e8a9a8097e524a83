use Rattle.std.proofs.Common.{rules, ◌≡◌, true, leb, arith}
use Rattle.std.specs.List.{list_all}
use Rattle.permissions.specs.Graph.{edges}
use Rattle.policy_reading.specs.CycleSearch.{label_at}
use Rattle.policy_reading.proofs.CycleLemmas.{falling_more, falling_all}
use Rattle.policy_reading.proofs.cycle.are_falling.Goals as goal

pub loop-place-preserved : goal.loop-place-preserved
loop-place-preserved c =
    let graph = c.args.graph.now in
    let labels = c.args.labels.now in
    let place = c.loop-place.place in
    let all : list_all (λ q. leb (label_at labels q) (label_at labels place)) (edges graph place) ≡ true = search rules in
    falling_more graph labels place all c.loop-place.invariant

pub returns : goal.returns
returns c = λ _. falling_all c.args.graph.now c.args.labels.now c.loop-place.place (omega arith) c.loop-place.invariant
