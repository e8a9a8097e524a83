-- The code's own words, which private contracts alone cite: what the steps of reading a message
-- leave and answer.
use Rattle.std.specs.Prelude.{◌≡◌, ℕ, zero, suc, ◌+◌, ◌-◌, ◌<◌, ◌≤◌, List, [], ◌++◌, length, take}
use Rattle.std.specs.Prelude.{drop}
use Rattle.std.specs.Prelude.{Option, Some, None, Result, Ok, Err, IfOk, IfErr}
use Rattle.std.specs.Result.{result_unwrap_or}
use Rattle.std.specs.Global.{Vec}
use Rattle.outside.specs.Bytes.{Gave, IsEnd}
use Rattle.outside.specs.Ends.{Incoming}
use Rattle.http_wire.specs.Head.{head_limit}
use Rattle.http_wire.specs.Scan.{head_end}
use Rattle.http_wire.specs.Stream.{HasFault, IsUndecided}
use Rattle.fault_counts.specs.Causes.{counted}
use Rattle.http_wire.specs.Held.{CountsRead, CountsEnds, ends_by}
use Rattle.http_wire.specs.declared.head_scan.HeadEnd.{HeadEnd}
use Rattle.http_wire.specs.declared.message.WireFault.{WireFault}
use Rattle.http_wire.specs.declared.message.WireFault.TheVariants.{HeadTooLong, CutShort, ReadFault}
use Rattle.http_wire.specs.declared.message.WireFault.TheVariants.{Memory}

-- what one read gave into a room from a place on
abbrev pub given_at : ℕ → Result ℕ WireFault → List ℕ → List ℕ
given_at at (Ok count) room = take count (drop at room)
given_at at (Err e) room = []

-- One read into room that isn't empty raised the count of ends by one where it gave nothing.
abbrev pub CountsNothing : ℕ → Result ℕ WireFault → ℕ → Type 0
CountsNothing before (Ok zero) now = now ≡ counted before
CountsNothing before (Ok (suc n)) now = now ≡ before
CountsNothing before (Err e) now = now ≡ before

-- A message that the input's end cut short raised the count of ends by one.
abbrev pub CountsCut : {T : Type 0} → ℕ → Result T WireFault → ℕ → Type 0
CountsCut before (Ok value) now = now ≡ before
CountsCut before (Err fault) now = now ≡ ends_by fault before

-- one read into a room from a place on
pub record ReadsAt (had : Incoming) (at : ℕ) (room : List ℕ) (result : Result ℕ WireFault)
    (now : List ℕ) (left : Incoming) : Type 0 where
  pub bound : IfOk result (λ n. at + n ≤ length now)
  pub kept : take at now ≡ take at room
  pub gave : Gave had.left (given_at at result now) left.left
  pub at_end : IfOk result (λ n. n ≡ 0 → IsEnd left.left)
  pub fault : IfErr result (λ e. e ≡ ReadFault)
  pub faults : CountsRead had.faults result left.faults
  pub ends : CountsNothing had.ends result left.ends

-- bytes were read behind those that were held
pub record IsRead (held : List ℕ) (had : Incoming) (now : List ℕ) (left : Incoming) : Type 0 where
  pub got : List ℕ
  pub gave : Gave had.left got left.left
  pub behind : now ≡ held ++ got

-- one read, of as many bytes as it answers
pub record Fills (held : List ℕ) (had : Incoming) (result : Result ℕ WireFault)
    (now : List ℕ) (left : Incoming) : Type 0 where
  pub read : IsRead held had now left
  pub many : length read.got ≡ result_unwrap_or result 0
  pub at_end : IfOk result (λ n. n ≡ 0 → IsEnd left.left)
  pub fault : IfErr result (λ e. e ≡ ReadFault)
  pub faults : CountsRead had.faults result left.faults
  pub ends : CountsNothing had.ends result left.ends

-- what the bytes say of their first head
abbrev pub IsHeadAnswer : List ℕ → Option (List ℕ) → Result (Option HeadEnd) WireFault → Type 0
IsHeadAnswer bytes left (Ok (Some end)) = head_end bytes ≡ Some (end.len, end.lines)
IsHeadAnswer bytes left (Ok None) = (bytes ≡ []) × IsEnd left
IsHeadAnswer bytes left (Err (CutShort have)) = HasFault bytes (CutShort have) × IsEnd left
IsHeadAnswer bytes left (Err HeadTooLong) = HasFault bytes HeadTooLong
IsHeadAnswer bytes left (Err ReadFault) = IsUndecided bytes
IsHeadAnswer bytes left (Err fault) = ⊥

-- reads until the head in front has ended, and none where what is held decides
pub record FindsHead (held : List ℕ) (had : Incoming) (result : Result (Option HeadEnd) WireFault)
    (now : List ℕ) (left : Incoming) : Type 0 where
  pub read : IsRead held had now left
  pub answer : IsHeadAnswer now left.left result
  pub short : length now ≤ head_limit
  pub faults : CountsRead had.faults result left.faults
  pub ends : CountsEnds had.ends result left.ends
  pub must_read : ¬ (IsUndecided held) → (now ≡ held) × (left ≡ had)

-- What taking a body of so many bytes from behind a head of so many answers, where the stream is
-- all that is there.
abbrev pub IsBodyAnswer : List ℕ → ℕ → ℕ → List ℕ → Option (List ℕ)
    → Result (Vec ℕ) WireFault → Type 0
IsBodyAnswer stream head len now left (Ok body) =
    (length body.items ≡ len) × (stream ≡ take head stream ++ (body.items ++ now))
IsBodyAnswer stream head len now left (Err (CutShort have)) =
    (have ≡ length stream) × (length stream < head + len) × IsEnd left
IsBodyAnswer stream head len now left (Err ReadFault) = length stream < head + len
IsBodyAnswer stream head len now left (Err Memory) = Unit {0}
IsBodyAnswer stream head len now left (Err fault) = ⊥

-- reads what a body lacks, and nothing where it is held
pub record TakesBody (held : List ℕ) (had : Incoming) (head len : ℕ)
    (result : Result (Vec ℕ) WireFault) (now : List ℕ) (left : Incoming) : Type 0 where
  pub got : List ℕ
  pub gave : Gave had.left got left.left
  pub answer : IsBodyAnswer (held ++ got) head len now left.left result
  pub faults : CountsRead had.faults result left.faults
  pub ends : CountsCut had.ends result left.ends
  pub needed : length got ≤ head + len - length held
  pub must_read : head + len ≤ length held → left ≡ had

-- What filling a body answers that had this in front, behind a head of so many bytes.
abbrev pub IsFillAnswer : List ℕ → List ℕ → ℕ → ℕ → List ℕ → Option (List ℕ)
    → {T : Type 0} → Result T WireFault → Type 0
IsFillAnswer front got len head now left (Ok done) = (now ≡ front ++ got) × (length now ≡ len)
IsFillAnswer front got len head now left (Err (CutShort have)) =
    (have ≡ head + (length front + length got)) × (length front + length got < len) × IsEnd left
IsFillAnswer front got len head now left (Err ReadFault) = length front + length got < len
IsFillAnswer front got len head now left (Err Memory) = Unit {0}
IsFillAnswer front got len head now left (Err fault) = ⊥

-- reads what a body of so many bytes lacks that had this in front
pub record FillsBody {T : Type 0} (front : List ℕ) (had : Incoming) (len head : ℕ)
    (result : Result T WireFault) (now : List ℕ) (left : Incoming) : Type 0 where
  pub got : List ℕ
  pub gave : Gave had.left got left.left
  pub answer : IsFillAnswer front got len head now left.left result
  pub within : length front + length got ≤ len
  pub faults : CountsRead had.faults result left.faults
  pub ends : CountsCut had.ends result left.ends
