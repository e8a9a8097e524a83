use Rattle.std.proofs.Common.{◌≡◌, List, Option, None, refl, sym, subst, arith}
use Rattle.names_realms.specs.declared.pairs.Pair.{Pair}
use Rattle.invocations.specs.Rows.{with_changed}
use Rattle.invocation_world.specs.Changes.{updated}
use Rattle.invocation_world.proofs.RowFacts.{changed_nothing}
use Rattle.invocation_world.proofs.updates.set_tags.Goals as goal

pub returns-in-None : goal.returns-in-None
returns-in-None c =
    let rows = c.args.table.now.rows in
    record {
      rows = subst (λ (ts : Option (List Pair)). rows ≡ with_changed (updated None ts) rows c.args.place) (sym c.in-None.is)
          (sym (changed_nothing (updated None None) (λ row. refl) rows c.args.place));
      spare = omega arith;
    }
