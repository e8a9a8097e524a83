-- What a wire holds between two calls, and what a call answers.
use Rattle.std.specs.Prelude.{◌≡◌, ℕ, ◌+◌, ◌≤◌, List, [], ◌++◌, length, Option, Some, None, Result}
use Rattle.std.specs.Prelude.{Ok, Err, is_ok}
use Rattle.outside.specs.Bytes.{Gave, IsEnd}
use Rattle.outside.specs.Ends.{Incoming}
use Rattle.fault_counts.specs.Causes.{Rose, counted}
use Rattle.http_wire.specs.Head.{head_limit}
use Rattle.http_wire.specs.Form.{body_limit}
use Rattle.http_wire.specs.Stream.{IsMessage, HasFault, IsUndecided}
use Rattle.http_wire.specs.WireState.{WireState}
use Rattle.http_wire.specs.declared.message.Message.{Message}
use Rattle.http_wire.specs.declared.message.WireFault.{WireFault}
use Rattle.http_wire.specs.declared.message.WireFault.TheVariants.{CutShort, ReadFault, Memory}

-- the most bytes that a message has
abbrev pub message_limit : ℕ
message_limit = head_limit + body_limit

-- The answer to a stream of bytes that were held before the call or read in it, with what the link
-- has left then and what is held then.
abbrev pub IsAnswer : List ℕ → Result (Option Message) WireFault → Option (List ℕ) → List ℕ → Type 0
-- the message stands in front, and what follows it is held
IsAnswer stream (Ok (Some m)) left held =
    (bytes : List ℕ) × IsMessage bytes m × (stream ≡ bytes ++ held)
-- nothing is left
IsAnswer stream (Ok None) left held = (stream ≡ []) × (held ≡ []) × IsEnd left
-- the input ended where a message isn't whole
IsAnswer stream (Err (CutShort have)) left held = HasFault stream (CutShort have) × IsEnd left
-- a read failed where more had to be read
IsAnswer stream (Err ReadFault) left held = IsUndecided stream
IsAnswer stream (Err Memory) left held = Unit {0}
-- the stream has another fault, and no more was read than a head may have
IsAnswer stream (Err fault) left held = HasFault stream fault × (length stream ≤ head_limit)

-- A read fault raised the count of failed reads, and every other answer leaves it as it was.
abbrev pub CountsRead : {T : Type 0} → ℕ → Result T WireFault → ℕ → Type 0
CountsRead before (Ok value) now = now ≡ before
CountsRead before (Err ReadFault) now = (before ≤ now) × Rose before now
CountsRead before (Err fault) now = now ≡ before

-- What a fault makes of the count of ends: one more where the input ended inside a message.
abbrev pub ends_by : WireFault → ℕ → ℕ
ends_by (CutShort have) before = counted before
ends_by fault before = before

-- The end of the input raised the count of ends by one, behind a message as inside one. Every other
-- answer leaves it as it was, so that nothing is read behind the end.
abbrev pub CountsEnds : {T : Type 0} → ℕ → Result (Option T) WireFault → ℕ → Type 0
CountsEnds before (Ok (Some value)) now = now ≡ before
CountsEnds before (Ok None) now = now ≡ counted before
CountsEnds before (Err fault) now = now ≡ ends_by fault before

-- A call on an open wire: what it read, and what it answered to that behind what was held. A fault
-- closes the wire, and nothing else does. Nothing is read where what is held decides, and never
-- more than a message.
pub record Reading (before : WireState) (had : Incoming)
    (result : Result (Option Message) WireFault) (left : Incoming) (now : WireState) : Type 0 where
  pub got : List ℕ
  pub gave : Gave had.left got left.left
  pub answer : IsAnswer (before.held ++ got) result left.left now.held
  pub stays_open : now.is_open ≡ is_ok result
  pub faults : CountsRead had.faults result left.faults
  pub ends : CountsEnds had.ends result left.ends
  pub must_read : ¬ (IsUndecided before.held) → (got ≡ []) × (left ≡ had)
  pub bounded : length (before.held ++ got) ≤ message_limit
