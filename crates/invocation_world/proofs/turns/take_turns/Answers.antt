use Rattle.std.proofs.Common.{◌≡◌, ◌∷◌, ◌∙◌, sym, subst, arith}
use Rattle.std.proofs.lemmas.Option.{same_Some}
use Rattle.inclusion_graph.specs.Edges.{GraphState}
use Rattle.invocations.specs.declared.invocation.Invocation.{Invocation}
use Rattle.invocations.specs.Rows.{begun, with_changed}
use Rattle.invocation_world.specs.Settling.{SettlesRows}
use Rattle.invocation_world.proofs.CodeFacts.{fewer_active}
use Rattle.invocation_world.proofs.RowFacts.{state_is}
use Rattle.invocation_world.proofs.turns.take_turns.Goals as goal

pub turns-smaller : goal.turns-smaller
turns-smaller c =
    let next = c.in-Some.ensures in
    let active = state_is _ c.turns.table.rows c.in-Some.place next.0 next.1.stands next.1.due.0 in
    fewer_active c.row.result.now.deadline c.turns.finaliser.graph.edges c.turns.table.rows c.in-Some.place c.retire_row.new.table.rows active
    c.retire_row.ensures.rows

pub turns-preserved : goal.turns-preserved
turns-preserved c =
    let next = c.in-Some.ensures in
    let rows = c.turns.table.rows in
    let place = c.in-Some.place in
    let new = c.retire_row.new.table.rows in
    let same : c.row.result.now ≡ next.0 = same_Some c.row.result.now next.0 (sym c.row.ensures ∙ next.1.stands) in
    let settled = subst (λ (g : GraphState). SettlesRows c.row.result.now.deadline g.edges (with_changed (begun c.row.result.now.deadline) rows place) new)
    c.turns.invariant.parts.graph c.retire_row.ensures.rows in
    let at = subst (λ (r : Invocation). SettlesRows r.deadline c.args.finaliser.now.graph.edges (with_changed (begun r.deadline) rows place) new) same settled in
    record {
      parts = record {
        linked = c.retire_row.ensures.parts.linked;
        graph = c.retire_row.ensures.parts.graph ∙ c.turns.invariant.parts.graph;
        rows = omega (arith, c.retire_row.ensures.parts.rows, c.turns.invariant.parts.rows);
        nodes = omega (arith, c.retire_row.ensures.parts.nodes, c.turns.invariant.parts.nodes);
      };
      runs = λ after h. c.turns.invariant.runs after (place ∷ h.0, (next.0, next.1, (new, at, h.1)));
    }
