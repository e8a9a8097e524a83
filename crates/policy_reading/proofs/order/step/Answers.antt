use Rattle.std.proofs.Common.{◌≤◌, length, sym}
use Rattle.std.proofs.lemmas.Bool.{ltb-false}
use Rattle.permissions.specs.Graph.{edges}
use Rattle.policy_reading.proofs.OrderLemmas.{edge_at, to_within, last_within, walked_back, on_to, round_to, down_to, less_back, less_on, less_down}
use Rattle.policy_reading.proofs.order.step.Goals as goal

pub leave-requires : goal.leave-requires
leave-requires c = last_within c.args.graph.now c.args.marks.now c.args.order.now.items c.args.path.now.items c.args.last c.requires.walked

pub returns-in_default-clause-walked : goal.returns-in_default-clause-walked
returns-in_default-clause-walked c =
    let all : length (edges c.args.graph.now c.args.last.place) ≤ c.args.last.followed =
    rw c.edges_of.ensures at (ltb-false c.args.last.followed (length c.edges_of.result.now) (sym c.in_default.ensures.lookup.0)) in
    rw (c.in_ok-leave.ensures.marks, c.in_ok-leave.ensures.order)
    (walked_back c.args.graph.now c.args.marks.now c.args.order.now.items c.args.path.now.items c.args.last c.requires.walked all)

pub returns-in_default-clause-less : goal.returns-in_default-clause-less
returns-in_default-clause-less c =
    rw c.in_ok-leave.ensures.marks (less_back c.args.graph.now c.args.marks.now c.args.order.now.items c.args.path.now.items c.args.last c.requires.walked)

pub bounds : goal.bounds
bounds c =
    let edge = edge_at c.args.graph.now c.args.last.place c.args.last.followed c.in-Some.to.now c.edges_of.result.now c.edges_of.ensures c.in-Some.ensures.lookup.0 c.in-Some.ensures.lookup.1 in
    to_within c.args.graph.now c.args.marks.now c.args.last.place c.args.last.followed c.in-Some.to.now c.requires.graph c.requires.walked.count edge.0 edge.1

pub enter-requires : goal.enter-requires
enter-requires c =
    let edge = edge_at c.args.graph.now c.args.last.place c.args.last.followed c.in-Some.to.now c.edges_of.result.now c.edges_of.ensures c.in-Some.ensures.lookup.0 c.in-Some.ensures.lookup.1 in
    to_within c.args.graph.now c.args.marks.now c.args.last.place c.args.last.followed c.in-Some.to.now c.requires.graph c.requires.walked.count edge.0 edge.1

pub returns-in_ok-enter-in-Unseen-clause-walked : goal.returns-in_ok-enter-in-Unseen-clause-walked
returns-in_ok-enter-in-Unseen-clause-walked c =
    let edge = edge_at c.args.graph.now c.args.last.place c.args.last.followed c.in-Some.to.now c.edges_of.result.now c.edges_of.ensures c.in-Some.ensures.lookup.0 c.in-Some.ensures.lookup.1 in
    rw (c.in_ok-enter-in-Unseen.ensures.marks, c.in_ok-enter-in-Unseen.ensures.path, c.in_ok-push-in-Unseen.ensures.items, c.next.ensures)
    (down_to c.args.graph.now c.args.marks.now c.args.order.now.items c.args.path.now.items c.args.last c.in-Some.to.now c.requires.walked c.requires.graph edge.0 edge.1 c.in-Unseen.is)

pub returns-in_ok-enter-in-Unseen-clause-less : goal.returns-in_ok-enter-in-Unseen-clause-less
returns-in_ok-enter-in-Unseen-clause-less c =
    let edge = edge_at c.args.graph.now c.args.last.place c.args.last.followed c.in-Some.to.now c.edges_of.result.now c.edges_of.ensures c.in-Some.ensures.lookup.0 c.in-Some.ensures.lookup.1 in
    let below = to_within c.args.graph.now c.args.marks.now c.args.last.place c.args.last.followed c.in-Some.to.now c.requires.graph c.requires.walked.count edge.0 edge.1 in
    rw (c.in_ok-enter-in-Unseen.ensures.marks, c.in_ok-enter-in-Unseen.ensures.path, c.in_ok-push-in-Unseen.ensures.items, c.next.ensures)
    (less_down c.args.graph.now c.args.marks.now c.args.path.now.items c.args.last c.in-Some.to.now edge.0 below c.requires.walked.count c.in-Unseen.is)

pub returns-in-Open-clause-walked : goal.returns-in-Open-clause-walked
returns-in-Open-clause-walked c =
    let edge = edge_at c.args.graph.now c.args.last.place c.args.last.followed c.in-Some.to.now c.edges_of.result.now c.edges_of.ensures c.in-Some.ensures.lookup.0 c.in-Some.ensures.lookup.1 in
    round_to c.args.graph.now c.args.marks.now c.args.order.now.items c.args.path.now.items c.args.last c.in-Some.to.now c.requires.walked c.requires.graph edge.0 edge.1 c.in-Open.is

pub returns-in-Open-clause-less : goal.returns-in-Open-clause-less
returns-in-Open-clause-less c =
    let edge = edge_at c.args.graph.now c.args.last.place c.args.last.followed c.in-Some.to.now c.edges_of.result.now c.edges_of.ensures c.in-Some.ensures.lookup.0 c.in-Some.ensures.lookup.1 in
    round_to c.args.graph.now c.args.marks.now c.args.order.now.items c.args.path.now.items c.args.last c.in-Some.to.now c.requires.walked c.requires.graph edge.0 edge.1 c.in-Open.is

pub returns-in_ok-push-in-Done-clause-walked : goal.returns-in_ok-push-in-Done-clause-walked
returns-in_ok-push-in-Done-clause-walked c =
    let edge = edge_at c.args.graph.now c.args.last.place c.args.last.followed c.in-Some.to.now c.edges_of.result.now c.edges_of.ensures c.in-Some.ensures.lookup.0 c.in-Some.ensures.lookup.1 in
    rw (c.in_ok-push-in-Done.ensures.items, c.next-in-Done.ensures)
    (on_to c.args.graph.now c.args.marks.now c.args.order.now.items c.args.path.now.items c.args.last c.in-Some.to.now c.requires.walked c.requires.graph edge.0 edge.1 c.in-Done.is)

pub returns-in_ok-push-in-Done-clause-less : goal.returns-in_ok-push-in-Done-clause-less
returns-in_ok-push-in-Done-clause-less c =
    let edge = edge_at c.args.graph.now c.args.last.place c.args.last.followed c.in-Some.to.now c.edges_of.result.now c.edges_of.ensures c.in-Some.ensures.lookup.0 c.in-Some.ensures.lookup.1 in
    rw (c.in_ok-push-in-Done.ensures.items, c.next-in-Done.ensures)
    (less_on c.args.graph.now c.args.marks.now c.args.path.now.items c.args.last edge.0)
