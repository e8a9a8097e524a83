use Rattle.std.proofs.Common.{ℕ, List, sym, subst, arith}
use Rattle.test_results.specs.Orders.{IsFrontIndex}
use Rattle.test_results.specs.Results.{keys_of}
use Rattle.test_results.proofs.KeyLemmas.{front_none}
use Rattle.test_results.proofs.keys.first_repeat.Goals as goal

pub loop-next-init : goal.loop-next-init
loop-next-init c = record {
  index = subst (λ (ps : List ℕ). IsFrontIndex (keys_of c.args.rows.now) 0 ps) (sym c.clear.ensures.items) (front_none (keys_of c.args.rows.now));
  once = λ key i j low high e f. absurd (omega (arith, low));
  capacity = omega (arith, c.clear.ensures.capacity);
}

pub add_next-requires-clause-room : goal.add_next-requires-clause-room
add_next-requires-clause-room c =
    omega (
      arith,
      c.loop-next.invariant.index.length,
      c.loop-next.order.ok.0,
      c.loop-next.invariant.capacity,
      c.requires.few,
      c.requires.room,
    )
