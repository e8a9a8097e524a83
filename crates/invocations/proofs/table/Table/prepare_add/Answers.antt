use Rattle.std.proofs.Common.{arith}
use Rattle.invocations.proofs.table.Table.prepare_add.Goals as goal

pub returns-clause-room : goal.returns-clause-room
returns-clause-room c =
    omega (
      arith,
      c.self.invariant.table.few,
      c.self.inside.rows.ok.0,
      c.reserve.ensures.len,
      c.in_ok-reserve.ensures.ok,
      c.in_ok-reserve-2.ensures.enough,
      c.in_ok-reserve-3.ensures.room,
    )
