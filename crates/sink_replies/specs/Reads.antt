-- The code's own words, which private contracts alone cite: what the steps of reading a reply did.
use Rattle.std.specs.Prelude.{◌≡◌, ◌≤◌, ◌<◌, ℕ, List, [], ◌++◌, length, take, drop, Option, Result, Ok, Err}
use Rattle.outside.specs.Bytes.{Gave, IsEnd}
use Rattle.outside.specs.Ends.{Incoming}
use Rattle.sink_replies.specs.Replies.{BeginsNoReply}
use Rattle.sink_replies.specs.Reading.{CountsFault, CountsEnd}
use Rattle.sink_replies.specs.Judged.{IsInFront, IsBegun}
use Rattle.sink_replies.specs.declared.heads.ReplyHead.{ReplyHead}
use Rattle.sink_replies.specs.declared.reads.ReplyEnd.{ReplyEnd}
use Rattle.sink_replies.specs.declared.reads.ReplyEnd.TheVariants.{BadReply, Ended, ReadFault}

-- what a read gave into a room
abbrev pub given : Result ℕ ReplyEnd → List ℕ → List ℕ
given (Ok count) room = take count room
given (Err e) room = []

-- A read gives one byte at least, or nothing at the end, or fails.
abbrev pub IsCount : Result ℕ ReplyEnd → List ℕ → Option (List ℕ) → Type 0
IsCount (Ok count) room left = (0 < count) × (count ≤ length room)
IsCount (Err (BadReply end)) room left = ⊥
IsCount (Err Ended) room left = IsEnd left
IsCount (Err ReadFault) room left = Unit {0}

-- one read into a room
pub record ReadsInto (had : Incoming) (result : Result ℕ ReplyEnd) (room : List ℕ) (left : Incoming)
    : Type 0 where
  pub gave : Gave had.left (given result room) left.left
  pub count : IsCount result room left.left
  pub faults : CountsFault had.faults result left.faults
  pub ends : CountsEnd had.ends result left.ends

-- one read into a room from a place on
pub record ReadsAt (had : Incoming) (at : ℕ) (room : List ℕ) (result : Result ℕ ReplyEnd)
    (now : List ℕ) (left : Incoming) : Type 0 where
  pub kept : take at now ≡ take at room
  pub read : ReadsInto had result (drop at now) left

-- Bytes were read: some where the read worked, and none else.
abbrev pub IsSome : {T : Type 0} → Result T ReplyEnd → List ℕ → Option (List ℕ) → Type 0
IsSome (Ok done) got left = 0 < length got
IsSome (Err (BadReply end)) got left = ⊥
IsSome (Err Ended) got left = (got ≡ []) × IsEnd left
IsSome (Err ReadFault) got left = got ≡ []

-- one read behind what is held
pub record Fills {T : Type 0} (held : List ℕ) (had : Incoming) (result : Result T ReplyEnd)
    (now : List ℕ) (left : Incoming) : Type 0 where
  pub got : List ℕ
  pub gave : Gave had.left got left.left
  pub some : IsSome result got left.left
  pub behind : now ≡ held ++ got
  pub faults : CountsFault had.faults result left.faults
  pub ends : CountsEnd had.ends result left.ends

-- what the bytes say of their first head
abbrev pub IsHeadAnswer : List ℕ → Option (List ℕ) → Result ReplyHead ReplyEnd → Type 0
IsHeadAnswer bytes left (Ok head) = IsInFront bytes head
IsHeadAnswer bytes left (Err (BadReply end)) =
    (end ≤ length bytes) × BeginsNoReply (take end bytes)
IsHeadAnswer bytes left (Err Ended) = IsBegun bytes × IsEnd left
IsHeadAnswer bytes left (Err ReadFault) = IsBegun bytes

-- reads until a reply's head stands in front
pub record FindsHead (held : List ℕ) (had : Incoming) (result : Result ReplyHead ReplyEnd)
    (now : List ℕ) (left : Incoming) : Type 0 where
  pub got : List ℕ
  pub gave : Gave had.left got left.left
  pub behind : now ≡ held ++ got
  pub answer : IsHeadAnswer now left.left result
  pub faults : CountsFault had.faults result left.faults
  pub ends : CountsEnd had.ends result left.ends
  pub must_read : ¬ (IsBegun held) → (got ≡ []) × (left ≡ had)

-- what passing over so many bytes answers that were read
abbrev pub IsSkip : {T : Type 0} → List ℕ → ℕ → Option (List ℕ) → Result T ReplyEnd → Type 0
IsSkip got len left (Ok done) = length got ≡ len
IsSkip got len left (Err (BadReply end)) = ⊥
IsSkip got len left (Err Ended) = (length got < len) × IsEnd left
IsSkip got len left (Err ReadFault) = length got < len

-- reads so many bytes
pub record Skips {T : Type 0} (had : Incoming) (len : ℕ) (result : Result T ReplyEnd)
    (left : Incoming) : Type 0 where
  pub got : List ℕ
  pub gave : Gave had.left got left.left
  pub answer : IsSkip got len left.left result
  pub faults : CountsFault had.faults result left.faults
  pub ends : CountsEnd had.ends result left.ends

-- what passing over a body of so many bytes answers, where these were held or read
abbrev pub IsBodyAnswer : {T : Type 0} → List ℕ → ℕ → Option (List ℕ) → Result T ReplyEnd → List ℕ
    → Type 0
IsBodyAnswer bytes len left (Ok done) now =
    (body : List ℕ) × (length body ≡ len) × (bytes ≡ body ++ now)
IsBodyAnswer bytes len left (Err (BadReply end)) now = ⊥
IsBodyAnswer bytes len left (Err Ended) now = (length bytes < len) × IsEnd left
IsBodyAnswer bytes len left (Err ReadFault) now = length bytes < len

-- passes over a body, of which it reads what isn't held
pub record SkipsBody {T : Type 0} (held : List ℕ) (had : Incoming) (len : ℕ)
    (result : Result T ReplyEnd) (now : List ℕ) (left : Incoming) : Type 0 where
  pub got : List ℕ
  pub gave : Gave had.left got left.left
  pub answer : IsBodyAnswer (held ++ got) len left.left result now
  pub faults : CountsFault had.faults result left.faults
  pub ends : CountsEnd had.ends result left.ends
  pub must_read : len ≤ length held → (got ≡ []) × (left ≡ had)
