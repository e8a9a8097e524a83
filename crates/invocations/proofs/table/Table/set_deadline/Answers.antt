use Rattle.std.proofs.Common.{◌≡◌, ℤ, List, Option, length, refl, sym, ap, ◌∙◌, subst, arith}
use Rattle.std.proofs.lemmas.Grind.{common_steps}
use Rattle.names_realms.specs.declared.states.State.{State}
use Rattle.names_realms.specs.declared.states.State.TheVariants.{Active}
use Rattle.invocations.specs.declared.due.Due.{Due}
use Rattle.invocations.specs.Rows.{TableState, IsInState, with_changed, with_deadline}
use Rattle.invocations.specs.Orders.{IsDueIndex, deadline_in, deadlines_of}
use Rattle.invocations.proofs.OrderedRows.{due_moved}
use Rattle.invocations.proofs.RowLemmas.{changed_is}
use Rattle.invocations.proofs.IndexedRows.{indexed_set, deadline_of, deadlines_set, same_entry, state_of}
use Rattle.std.specs.List.{slice_set}
use Rattle.invocations.proofs.table.Table.set_deadline.Goals as goal

pub replace-requires-clause-there : goal.replace-requires-clause-there
replace-requires-clause-there c =
    let row = c.index_mut-row.result.now in
    let at = subst (λ (t : TableState). IsInState Active t.rows c.args.place) (sym c.self.view_is) c.requires in
    (c.self.invariant.due.all (record { deadline = row.deadline; place = c.args.place })).1
    (deadline_of c.self.inside.rows.items c.args.place row at c.index_mut-row.ensures.value)

pub replace-requires-clause-absent : goal.replace-requires-clause-absent
replace-requires-clause-absent c =
    let row = c.index_mut-row.result.now in
    let at = subst (λ (t : TableState). IsInState Active t.rows c.args.place) (sym c.self.view_is) c.requires in
    same_entry c.self.inside.rows.items c.self.inside.by_deadline.entries.items
    (record { deadline = row.deadline; place = c.args.place }) (record { deadline = c.args.deadline; place = c.args.place })
    c.self.invariant.due (deadline_of c.self.inside.rows.items c.args.place row at c.index_mut-row.ensures.value) refl

pub invariant_of-self : goal.invariant_of-self
invariant_of-self c =
    let row = c.index_mut-row.result.now in
    let rows = c.self.inside.rows.items in
    let entries = c.self.inside.by_deadline.entries.items in
    let new = c.replace.new.self.entries.items in
    let due : Due = record { deadline = row.deadline; place = c.args.place } in
    let to : Due = record { deadline = c.args.deadline; place = c.args.place } in
    let at = subst (λ (t : TableState). IsInState Active t.rows c.args.place) (sym c.self.view_is) c.requires in
    let state = state_of Active rows c.args.place row at c.index_mut-row.ensures.value in
    let count : length new ≡ length entries =
    omega (arith, c.replace.ensures.len, c.replace.new.self.entries.ok.0, c.self.inside.by_deadline.entries.ok.0) in
    let replaced = c.replace.ensures.entries in
    let is = deadlines_set rows c.args.place (with_deadline c.args.deadline row)
    ∙ ap (λ (s : State). slice_set (deadlines_of rows) c.args.place (deadline_in s c.args.deadline)) state in
    indexed_set (with_deadline c.args.deadline) (λ _. refl) rows c.self.inside.by_id entries new c.args.place row
    c.index_mut-row.ensures.value c.self.invariant
    (subst (λ (ds : List (Option ℤ)). IsDueIndex ds new) (sym is)
    (due_moved (deadlines_of rows) entries replaced.between new due to c.self.invariant.due
    (deadline_of rows c.args.place row at c.index_mut-row.ensures.value) refl replaced.fewer replaced.rising replaced.more count))

pub returns : goal.returns
returns c = record {
  roomier = record {
    rows = changed_is (with_deadline c.args.deadline) c.self.inside.rows.items c.args.place c.index_mut-row.result.now
        c.index_mut-row.ensures.value
        ∙ ap (λ (t : TableState). with_changed (with_deadline c.args.deadline) t.rows c.args.place) c.self.view_is;
    spare = grind (arith, common_steps);
  };
}
