use Rattle.std.proofs.Common.{refl, ap, ◌∙◌, arith}
use Rattle.std.proofs.lemmas.Grind.{common_steps}
use Rattle.invocations.specs.Rows.{TableState, with_changed, with_tags}
use Rattle.invocations.proofs.RowLemmas.{changed_is}
use Rattle.invocations.proofs.IndexedRows.{indexed_beside}
use Rattle.invocations.proofs.table.Table.set_tags.Goals as goal

pub invariant_of-self : goal.invariant_of-self
invariant_of-self c =
    indexed_beside (with_tags c.args.tags) (λ _. refl) c.self.inside.rows.items c.self.inside.by_id
    c.self.inside.by_deadline.entries.items c.args.place c.index_mut-row.result.now c.index_mut-row.ensures.value refl c.self.invariant

pub returns : goal.returns
returns c = record {
  roomier = record {
    rows = changed_is (with_tags c.args.tags) c.self.inside.rows.items c.args.place c.index_mut-row.result.now
        c.index_mut-row.ensures.value
        ∙ ap (λ (t : TableState). with_changed (with_tags c.args.tags) t.rows c.args.place) c.self.view_is;
    spare = grind (arith, common_steps);
  };
}
