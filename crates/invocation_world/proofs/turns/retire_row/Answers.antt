use Rattle.std.proofs.Common.{◌≡◌, ◌++◌, ℕ, List, ap, ◌∙◌, sym, subst, arith}
use Rattle.std.specs.List.{All}
use Rattle.names_realms.specs.declared.states.State.TheVariants.{Finalizing}
use Rattle.invocations.specs.declared.invocation.Invocation.{Invocation}
use Rattle.invocations.specs.Rows.{IsInState, begun, with_changed}
use Rattle.invocation_world.specs.Settling.{AreEnded}
use Rattle.invocation_world.proofs.CodeFacts.{finals_wait, retired_rows, retired_states}
use Rattle.invocation_world.proofs.turns.retire_row.Goals as goal

pub end_rows-requires-clause-finalizing : goal.end_rows-requires-clause-finalizing
end_rows-requires-clause-finalizing c =
    let settled = c.retire.ensures.settled in
    let mid = with_changed (begun c.args.moment) c.args.table.now.rows c.args.place in
    let finals : c.finals.result.now ≡ settled.0 =
    c.finals.ensures.finals ∙ settled.1 ∙ ap (λ (ns : List ℕ). ns ++ settled.0) c.requires.linked.finals in
    let wait = finals_wait c.args.moment c.args.finaliser.now.graph.edges c.args.table.now.rows c.args.place
    c.args.finaliser.now.states c.retire.new.self.states settled.0 c.requires.linked.states settled.2 in
    subst (λ (rs : List Invocation). All (IsInState Finalizing rs) c.finals.result.now) (sym c.begin_final.ensures.roomier.rows)
    (subst (λ (ns : List ℕ). All (IsInState Finalizing mid) ns) (sym finals) wait)

pub returns-clause-rows : goal.returns-clause-rows
returns-clause-rows c =
    let settled = c.retire.ensures.settled in
    let finals : c.finals.result.now ≡ settled.0 =
    c.finals.ensures.finals ∙ settled.1 ∙ ap (λ (ns : List ℕ). ns ++ settled.0) c.requires.linked.finals in
    let ended_here = subst (λ (rs : List Invocation). AreEnded c.args.moment settled.0 rs c.end_rows.new.table.rows) c.begin_final.ensures.roomier.rows
    (subst (λ (ns : List ℕ). AreEnded c.args.moment ns c.begin_final.new.self.rows c.end_rows.new.table.rows) finals c.end_rows.ensures.ended) in
    retired_rows c.args.moment c.args.finaliser.now.graph.edges c.args.table.now.rows c.args.place c.args.finaliser.now.states
    c.retire.new.self.states settled.0 c.end_rows.new.table.rows
    (record { linked = c.requires.linked.states; settles = settled.2; are_ended = ended_here })

pub returns-clause-parts : goal.returns-clause-parts
returns-clause-parts c =
    let settled = c.retire.ensures.settled in
    let finals : c.finals.result.now ≡ settled.0 =
    c.finals.ensures.finals ∙ settled.1 ∙ ap (λ (ns : List ℕ). ns ++ settled.0) c.requires.linked.finals in
    let ended_here = subst (λ (rs : List Invocation). AreEnded c.args.moment settled.0 rs c.end_rows.new.table.rows) c.begin_final.ensures.roomier.rows
    (subst (λ (ns : List ℕ). AreEnded c.args.moment ns c.begin_final.new.self.rows c.end_rows.new.table.rows) finals c.end_rows.ensures.ended) in
    record {
      linked = record {
        states = c.clear_finals.ensures.stays.states
            ∙ retired_states c.args.moment c.args.finaliser.now.graph.edges c.args.table.now.rows c.args.place c.args.finaliser.now.states
            c.retire.new.self.states settled.0 c.end_rows.new.table.rows
            (record { linked = c.requires.linked.states; settles = settled.2; are_ended = ended_here });
        finals = c.clear_finals.ensures.stays.finals;
      };
      graph = c.clear_finals.ensures.stays.graph ∙ c.retire.ensures.graph;
      rows = omega (arith, c.begin_final.ensures.roomier.spare, c.end_rows.ensures.spare);
      nodes = omega (arith, c.retire.ensures.spare, c.clear_finals.ensures.stays.spare);
    }
