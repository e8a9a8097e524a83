-- Why a connection ends, and what that comes to: one row for each cause.
use Rattle.std.specs.Prelude.{◌≡◌, ◌≢◌, ℕ, ◌≤◌, List, [], length, true}
use Rattle.std.specs.Prelude.{Option, Some, None, Result, Ok, Err}
use Rattle.outside.specs.Bytes.{IsEnd}
use Rattle.fault_counts.specs.Causes.{Rose, counted}
use Rattle.outside.specs.declared.whole.WriteEnd.{WriteEnd}
use Rattle.outside.specs.declared.whole.WriteEnd.TheVariants as write_ends
use Rattle.call_forms.specs.ReplyBytes.{standin_bytes}
use Rattle.call_forms.specs.declared.forms.Standin.TheVariants as standins
use Rattle.http_wire.specs.Head.{head_limit}
use Rattle.http_wire.specs.Out.{farewell_bytes}
use Rattle.http_wire.specs.Stream.{HasEnd, IsUndecided}
use Rattle.http_wire.specs.declared.message.End.{End}
use Rattle.http_wire.specs.declared.message.End.TheVariants as stream_ends
use Rattle.http_wire.specs.declared.message.WireFault.{WireFault}
use Rattle.http_wire.specs.declared.message.WireFault.TheVariants as faults
use Rattle.http_workers.specs.declared.ended.Cause.{Cause}
use Rattle.http_workers.specs.declared.ended.Cause.TheVariants as causes

-- the stand-in that closes a connection for want of memory
abbrev pub closing_standin : List ℕ
closing_standin = standin_bytes standins.Memory true

-- what is said to the peer of a fault of the stream: nothing where it ended itself
abbrev pub farewell_of : WireFault → List ℕ
farewell_of (faults.CutShort have) = []
farewell_of faults.ReadFault = []
farewell_of faults.Memory = []
farewell_of fault = farewell_bytes fault

-- A cause's row: what is written behind the replies, and the end of the stream where it was
-- reached.
pub record Row : Type 0 where
  pub closing : List ℕ
  pub end : Option End

abbrev pub row : List ℕ → Option End → Row
row closing end = record { closing = closing; end = end }

abbrev pub row_of : Cause → Row
row_of causes.End = row [] (Some stream_ends.Finished)
row_of causes.Closed = row [] (Some stream_ends.Closed)
row_of causes.ReadFault = row [] None
row_of causes.WriteFault = row [] None
row_of causes.Memory = row closing_standin None
row_of (causes.Wire fault) = row (farewell_of fault) (Some (stream_ends.Fault fault))
row_of causes.SinkTakesNothing = row closing_standin None

-- why a connection ends whose reply wasn't written whole
abbrev pub cause_of : WriteEnd → Cause
cause_of write_ends.WriteFault = causes.WriteFault
cause_of write_ends.SinkTakesNothing = causes.SinkTakesNothing

-- How the last write ended. A farewell that can't be written whole changes nothing.
abbrev pub IsLastWrite : Cause → Result (Unit {0}) WriteEnd → Type 0
IsLastWrite causes.End result = result ≡ Ok tt
IsLastWrite causes.Closed result = result ≡ Ok tt
IsLastWrite causes.ReadFault result = result ≡ Ok tt
IsLastWrite causes.WriteFault result = result ≡ Err write_ends.WriteFault
IsLastWrite causes.Memory result = result ≢ Err write_ends.SinkTakesNothing
IsLastWrite (causes.Wire fault) result = Unit {0}
IsLastWrite causes.SinkTakesNothing result = result ≡ Err write_ends.SinkTakesNothing

-- The count of reads that failed rose at a read fault, and stays at every other cause.
abbrev pub CountsReads : Cause → ℕ → ℕ → Type 0
CountsReads causes.ReadFault before after = (before ≤ after) × Rose before after
CountsReads causes.End before after = after ≡ before
CountsReads causes.Closed before after = after ≡ before
CountsReads causes.WriteFault before after = after ≡ before
CountsReads causes.Memory before after = after ≡ before
CountsReads (causes.Wire fault) before after = after ≡ before
CountsReads causes.SinkTakesNothing before after = after ≡ before

-- The count of ends rose by one where the input's end was reached, behind a message or inside one,
-- and stays at every other cause.
abbrev pub CountsEnds : Cause → ℕ → ℕ → Type 0
CountsEnds causes.End before after = after ≡ counted before
CountsEnds (causes.Wire (faults.CutShort have)) before after = after ≡ counted before
CountsEnds (causes.Wire fault) before after = after ≡ before
CountsEnds causes.Closed before after = after ≡ before
CountsEnds causes.ReadFault before after = after ≡ before
CountsEnds causes.WriteFault before after = after ≡ before
CountsEnds causes.Memory before after = after ≡ before
CountsEnds causes.SinkTakesNothing before after = after ≡ before

-- where a stream ended by itself, nothing of it is left
abbrev pub NothingLeft : End → Option (List ℕ) → Type 0
NothingLeft stream_ends.Finished left = IsEnd left
NothingLeft stream_ends.Closed left = Unit {0}
NothingLeft (stream_ends.Fault (faults.CutShort have)) left = IsEnd left
NothingLeft (stream_ends.Fault fault) left = Unit {0}

-- the end that was reached stands behind the messages in what was read
abbrev pub ReachesEnd : End → List ℕ → Option (List ℕ) → Type 0
ReachesEnd end rest left = HasEnd rest end × NothingLeft end left

-- What stands behind the messages in what was read. A read fails only where an end wasn't decided
-- yet. Behind a message that closes no more was read than a head may have.
abbrev pub IsRest : Cause → List ℕ → Option (List ℕ) → Type 0
IsRest causes.ReadFault rest left = IsUndecided rest
IsRest causes.End rest left = ReachesEnd stream_ends.Finished rest left
IsRest (causes.Wire fault) rest left = ReachesEnd (stream_ends.Fault fault) rest left
IsRest causes.Closed rest left = length rest ≤ head_limit
IsRest causes.WriteFault rest left = Unit {0}
IsRest causes.Memory rest left = Unit {0}
IsRest causes.SinkTakesNothing rest left = Unit {0}
