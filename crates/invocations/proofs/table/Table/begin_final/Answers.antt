use Rattle.std.proofs.Common.{◌≡◌, ◌+◌, ℤ, List, Option, length, refl, sym, ap, ◌∙◌, subst, arith}
use Rattle.std.proofs.lemmas.Grind.{common_steps}
use Rattle.names_realms.specs.declared.states.State.TheVariants.{Active}
use Rattle.invocations.specs.declared.due.Due.{Due}
use Rattle.invocations.specs.Rows.{TableState, IsInState, begun, with_changed}
use Rattle.invocations.specs.Orders.{IsDueIndex, deadlines_of}
use Rattle.invocations.proofs.OrderedRows.{due_removed}
use Rattle.invocations.proofs.RowLemmas.{changed_is}
use Rattle.invocations.proofs.IndexedRows.{indexed_set, deadline_of, deadlines_set}
use Rattle.invocations.proofs.table.Table.begin_final.Goals as goal

pub remove-requires-clause-there : goal.remove-requires-clause-there
remove-requires-clause-there c =
    let row = c.index_mut-row.result.now in
    let at = subst (λ (t : TableState). IsInState Active t.rows c.args.place) (sym c.self.view_is) c.requires in
    (c.self.invariant.due.all (record { deadline = row.deadline; place = c.args.place })).1
    (deadline_of c.self.inside.rows.items c.args.place row at c.index_mut-row.ensures.value)

pub invariant_of-self : goal.invariant_of-self
invariant_of-self c =
    let row = c.index_mut-row.result.now in
    let rows = c.self.inside.rows.items in
    let entries = c.self.inside.by_deadline.entries.items in
    let new = c.remove.new.self.entries.items in
    let due : Due = record { deadline = row.deadline; place = c.args.place } in
    let at = subst (λ (t : TableState). IsInState Active t.rows c.args.place) (sym c.self.view_is) c.requires in
    let fewer : length new + 1 ≡ length entries =
    omega (arith, c.remove.ensures.len, c.remove.new.self.entries.ok.0, c.self.inside.by_deadline.entries.ok.0) in
    indexed_set (begun c.args.moment) (λ _. refl) rows c.self.inside.by_id entries new c.args.place row
    c.index_mut-row.ensures.value c.self.invariant
    (subst (λ (ds : List (Option ℤ)). IsDueIndex ds new) (sym (deadlines_set rows c.args.place (begun c.args.moment row)))
    (due_removed (deadlines_of rows) entries new due c.self.invariant.due
    (deadline_of rows c.args.place row at c.index_mut-row.ensures.value) c.remove.ensures.rising c.remove.ensures.entries fewer))

pub returns : goal.returns
returns c = record {
  roomier = record {
    rows = changed_is (begun c.args.moment) c.self.inside.rows.items c.args.place c.index_mut-row.result.now
        c.index_mut-row.ensures.value
        ∙ ap (λ (t : TableState). with_changed (begun c.args.moment) t.rows c.args.place) c.self.view_is;
    spare = grind (arith, common_steps);
  };
}
