use Rattle.std.proofs.Common.{◌≡◌, length, sym, ap, subst, ◌∙◌}
use Rattle.std.proofs.lemmas.List.{length-map}
use Rattle.permissions.specs.Graph.{IsGraph}
use Rattle.permissions.specs.Cycle.{IsLeastCycle}
use Rattle.policy_reading.specs.CycleSearch.{IsLeastBefore, name_at}
use Rattle.permissions.proofs.ReachLemmas.{graph-IsGraph, length-graph_of}
use Rattle.policy_reading.proofs.CycleLemmas.{no_cycle_named, least_cycle_named}
use Rattle.policy_reading.proofs.cycle.first_cycle.Goals as goal

pub least_back-requires-clause-graph : goal.least_back-requires-clause-graph
least_back-requires-clause-graph c = subst IsGraph (sym c.requires) (graph-IsGraph c.args.book.now)

pub least_back-requires-clause-len : goal.least_back-requires-clause-len
least_back-requires-clause-len c =
    let t = c.args.book.now in
    let realms : c.as_slice-realms.result.now ≡ t.realms = c.as_slice-realms.ensures ∙ ap (λ t. t.realms) c.tables.ensures in
    ap length realms ∙ sym (length-map t.realms (λ r. r.name)) ∙ sym (length-graph_of t) ∙ ap length (sym c.requires)

pub returns-in_ok-name-in-Some : goal.returns-in_ok-name-in-Some
returns-in_ok-name-in-Some c =
    let t = c.args.book.now in
    let rs = c.as_slice-realms.result.now in
    let realms : rs ≡ t.realms = c.as_slice-realms.ensures ∙ ap (λ t. t.realms) c.tables.ensures in
    let found = subst (IsLeastBefore c.args.graph.now rs (length rs)) c.in-Some.is c.in_ok-place.ensures in
    let name = c.in_ok-name-in-Some.ensures ∙ c.name_of_place.ensures in
    subst (IsLeastCycle t) (sym name) (least_cycle_named t c.args.graph.now rs c.in-Some.place c.requires realms found)

pub returns-in-None : goal.returns-in-None
returns-in-None c =
    let t = c.args.book.now in
    let rs = c.as_slice-realms.result.now in
    let realms : rs ≡ t.realms = c.as_slice-realms.ensures ∙ ap (λ t. t.realms) c.tables.ensures in
    no_cycle_named t c.args.graph.now rs c.requires realms (subst (IsLeastBefore c.args.graph.now rs (length rs)) c.in-None.is c.in_ok-place.ensures)
