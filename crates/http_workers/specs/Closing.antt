-- How a connection is closed after the wire's last answer.
use Rattle.std.specs.Prelude.{◌≡◌, ◌≢◌, ◌⊎◌, Bool, false, List, [], Result, Ok, Err}
use Rattle.outside.specs.Ends.{Outgoing}
use Rattle.outside.specs.Whole.{WritesWhole}
use Rattle.outside.specs.declared.whole.WriteEnd.{WriteEnd}
use Rattle.outside.specs.declared.whole.WriteEnd.TheVariants as write_ends
use Rattle.http_wire.specs.declared.message.WireFault.{WireFault}
use Rattle.http_wire.specs.declared.message.WireFault.TheVariants as faults
use Rattle.http_workers.specs.Causes.{row_of, closing_standin}
use Rattle.http_workers.specs.declared.ended.Cause.{Cause}
use Rattle.http_workers.specs.declared.ended.Cause.TheVariants as causes

-- nothing was written
abbrev pub WroteNothing : Result (Unit {0}) WriteEnd → Outgoing → Outgoing → Type 0
WroteNothing result before after = (result ≡ Ok tt) × (after ≡ before)

-- the cause that a fault of the wire comes to, and how the closing bytes were written
abbrev pub ClosesBy : WireFault → Cause → Result (Unit {0}) WriteEnd → Outgoing → Outgoing → Type 0
ClosesBy (faults.CutShort have) cause result before after =
    (cause ≡ causes.Wire (faults.CutShort have)) × WroteNothing result before after
ClosesBy faults.ReadFault cause result before after =
    (cause ≡ causes.ReadFault) × WroteNothing result before after
ClosesBy faults.Memory cause result before after =
    WritesWhole before closing_standin result after
    × (((cause ≡ causes.Memory) × (result ≢ Err write_ends.SinkTakesNothing))
    ⊎ ((cause ≡ causes.SinkTakesNothing) × (result ≡ Err write_ends.SinkTakesNothing)))
ClosesBy fault cause result before after =
    (cause ≡ causes.Wire fault)
    × WritesWhole before (row_of (causes.Wire fault)).closing result after

abbrev pub Closes : WireFault → Cause → Outgoing → Outgoing → Type 0
Closes fault cause before after =
    (result : Result (Unit {0}) WriteEnd) × ClosesBy fault cause result before after

-- A cause that the wire gave leaves it closed, so that want of memory is told only where the wire
-- answered it.
abbrev pub LeavesWire : Cause → Bool → Type 0
LeavesWire causes.Memory is_open = is_open ≡ false
LeavesWire causes.ReadFault is_open = is_open ≡ false
LeavesWire (causes.Wire fault) is_open = is_open ≡ false
LeavesWire causes.End is_open = Unit {0}
LeavesWire causes.Closed is_open = Unit {0}
LeavesWire causes.WriteFault is_open = Unit {0}
LeavesWire causes.SinkTakesNothing is_open = Unit {0}
