use Rattle.std.proofs.Common.{◌≡◌, ℤ, Option, None, refl, sym, subst, arith}
use Rattle.invocations.specs.Rows.{with_changed}
use Rattle.invocation_world.specs.Changes.{updated}
use Rattle.invocation_world.proofs.RowFacts.{changed_nothing}
use Rattle.invocation_world.proofs.updates.set_deadline.Goals as goal

pub returns-in-None : goal.returns-in-None
returns-in-None c =
    let rows = c.args.table.now.rows in
    record {
      rows = subst (λ (d : Option ℤ). rows ≡ with_changed (updated d None) rows c.args.place) (sym c.in-None.is)
          (sym (changed_nothing (updated None None) (λ row. refl) rows c.args.place));
      spare = omega arith;
    }
