use Rattle.std.proofs.Common.{refl, sym, ap, ◌∙◌, subst, arith}
use Rattle.std.proofs.lemmas.Grind.{common_steps}
use Rattle.names_realms.specs.declared.states.State.{State}
use Rattle.names_realms.specs.declared.states.State.TheVariants.{Finalizing}
use Rattle.invocations.specs.Rows.{TableState, IsInState, ended, with_changed}
use Rattle.invocations.specs.Orders.{deadline_in}
use Rattle.invocations.proofs.RowLemmas.{changed_is}
use Rattle.invocations.proofs.IndexedRows.{indexed_beside, state_of}
use Rattle.invocations.proofs.table.Table.set_final.Goals as goal

pub invariant_of-self : goal.invariant_of-self
invariant_of-self c =
    let row = c.index_mut-row.result.now in
    let rows = c.self.inside.rows.items in
    let at = subst (λ (t : TableState). IsInState Finalizing t.rows c.args.place) (sym c.self.view_is) c.requires in
    let state = state_of Finalizing rows c.args.place row at c.index_mut-row.ensures.value in
    indexed_beside (ended c.args.moment) (λ _. refl) rows c.self.inside.by_id c.self.inside.by_deadline.entries.items c.args.place row
    c.index_mut-row.ensures.value (ap (λ (s : State). deadline_in s row.deadline) (sym state)) c.self.invariant

pub returns : goal.returns
returns c = record {
  roomier = record {
    rows = changed_is (ended c.args.moment) c.self.inside.rows.items c.args.place c.index_mut-row.result.now
        c.index_mut-row.ensures.value
        ∙ ap (λ (t : TableState). with_changed (ended c.args.moment) t.rows c.args.place) c.self.view_is;
    spare = grind (arith, common_steps);
  };
}
