-- What reading a reply from a link did.
use Rattle.std.specs.Prelude.{◌≡◌, ℕ, ◌≤◌, List, [], ◌++◌, length, take, Option, Result, Ok, Err}
use Rattle.fault_counts.specs.Causes.{Rose, counted}
use Rattle.outside.specs.Bytes.{Gave, IsEnd}
use Rattle.outside.specs.Ends.{Incoming}
use Rattle.sink_replies.specs.Replies.{HasReply, BeginsNoReply, IsUnfinished}
use Rattle.sink_replies.specs.declared.reads.ReplyEnd.{ReplyEnd}
use Rattle.sink_replies.specs.declared.reads.ReplyEnd.TheVariants.{BadReply, Ended, ReadFault}

-- The answer to bytes that were held before the call or read in it, with what the link has left
-- then and what is held then.
abbrev pub IsAnswer : List ℕ → Result ℕ ReplyEnd → Option (List ℕ) → List ℕ → Type 0
-- a reply stands in front, and what follows it is held
IsAnswer bytes (Ok status) left held = HasReply bytes status held
-- a front of the bytes begins no reply
IsAnswer bytes (Err (BadReply end)) left held =
    (end ≤ length bytes) × BeginsNoReply (take end bytes)
-- the input ended where the reply isn't whole
IsAnswer bytes (Err Ended) left held = IsUnfinished bytes × IsEnd left
-- a read failed where more had to be read
IsAnswer bytes (Err ReadFault) left held = IsUnfinished bytes

-- A read fault raised the count of failed reads, and every other answer leaves it as it was.
abbrev pub CountsFault : {T : Type 0} → ℕ → Result T ReplyEnd → ℕ → Type 0
CountsFault before (Ok value) now = now ≡ before
CountsFault before (Err (BadReply end)) now = now ≡ before
CountsFault before (Err Ended) now = now ≡ before
CountsFault before (Err ReadFault) now = (before ≤ now) × Rose before now

-- The end of the input raised the count of ends by one, and every other answer leaves it.
abbrev pub CountsEnd : {T : Type 0} → ℕ → Result T ReplyEnd → ℕ → Type 0
CountsEnd before (Ok value) now = now ≡ before
CountsEnd before (Err (BadReply end)) now = now ≡ before
CountsEnd before (Err Ended) now = now ≡ counted before
CountsEnd before (Err ReadFault) now = now ≡ before

-- What was read, and what was answered to that behind what was held. Nothing is read where what was
-- held decides.
pub record ReadsReply (held : List ℕ) (had : Incoming) (result : Result ℕ ReplyEnd)
    (now : List ℕ) (left : Incoming) : Type 0 where
  pub got : List ℕ
  pub gave : Gave had.left got left.left
  pub answer : IsAnswer (held ++ got) result left.left now
  pub faults : CountsFault had.faults result left.faults
  pub ends : CountsEnd had.ends result left.ends
  pub must_read : ¬ (IsUnfinished held) → (got ≡ []) × (left ≡ had)
