-- A connection: messages come in, each is asked of the teller, and what it tells goes out.
use Rattle.std.specs.Prelude.{◌≡◌, ℕ, ◌≤◌, ◌⊎◌, Bool, List, [], ◌∷◌, ◌++◌, Result, length}
use Rattle.outside.specs.Bytes.{Gave, Took}
use Rattle.outside.specs.Ends.{Outgoing, Ends}
use Rattle.outside.specs.Whole.{WritesWhole}
use Rattle.outside.specs.declared.whole.WriteEnd.{WriteEnd}
use Rattle.call_forms.specs.ReplyBytes.{told_bytes}
use Rattle.call_forms.specs.declared.forms.Told.{Told}
use Rattle.tellers.specs.Exchange.{Exchange}
use Rattle.http_wire.specs.Stream.{Spells, StayOpen, reply_limit, closes}
use Rattle.http_workers.specs.Turns.{Turn, messages_of, exchanges_of, replies, OthersStay}
use Rattle.http_workers.specs.Turns.{LastCloses}
use Rattle.http_workers.specs.Causes.{row_of, IsLastWrite, CountsReads, CountsEnds, IsRest}
use Rattle.http_workers.specs.declared.ended.Cause.{Cause}
use Rattle.http_workers.specs.declared.ended.Cause.TheVariants as causes

-- The earlier bytes were written whole, and then the last ones, whose write ended so.
pub record Sent (before : Outgoing) (earlier last : List ℕ) (result : Result (Unit {0}) WriteEnd)
    (after : Outgoing) : Type 0 where
  pub between : Outgoing
  pub whole : Took before.written earlier between.written
  pub faults : between.faults ≡ before.faults
  pub stalls : between.stalls ≡ before.stalls
  pub writes : WritesWhole between last result after

-- The last bytes are the reply of the last turn, behind those of all others.
pub record IsLastReply (turns : List Turn) (earlier last : List ℕ) : Type 0 where
  pub others : List Turn
  pub turn : Turn
  pub turns_are : turns ≡ others ++ turn ∷ []
  pub earlier_is : earlier ≡ replies others
  pub last_is : last ≡ told_bytes turn.told (closes (length others) turn.message)

-- The last bytes are the cause's closing ones, behind all replies.
abbrev pub IsClosing : Cause → List Turn → List ℕ → List ℕ → Type 0
IsClosing cause turns earlier last = (earlier ≡ replies turns) × (last ≡ (row_of cause).closing)

-- How a connection ends, by the cause: which of the messages closes it, and what was written last.
-- None closes it, and the closing bytes were written; or the last one does, and nothing was written
-- behind its reply; or its reply, which may close the connection, wasn't written whole.
abbrev pub IsLast : Cause → List Turn → List ℕ → List ℕ → Type 0
IsLast causes.End turns earlier last =
    StayOpen 0 (messages_of turns) × IsClosing causes.End turns earlier last
IsLast causes.Closed turns earlier last =
    LastCloses (messages_of turns) × IsClosing causes.Closed turns earlier last
IsLast (causes.Wire fault) turns earlier last =
    StayOpen 0 (messages_of turns) × IsClosing (causes.Wire fault) turns earlier last
IsLast causes.ReadFault turns earlier last =
    StayOpen 0 (messages_of turns) × IsClosing causes.ReadFault turns earlier last
IsLast causes.Memory turns earlier last =
    StayOpen 0 (messages_of turns) × IsClosing causes.Memory turns earlier last
IsLast causes.WriteFault turns earlier last =
    OthersStay (messages_of turns) × IsLastReply turns earlier last
IsLast causes.SinkTakesNothing turns earlier last =
    (OthersStay (messages_of turns) × IsLastReply turns earlier last)
    ⊎ (StayOpen 0 (messages_of turns) × IsClosing causes.SinkTakesNothing turns earlier last)

-- A connection on which the teller was asked so many messages, and that ended by this cause.
-- `asked` says of exchanges that the teller was asked them, in order.
pub record Connection (asked : List Exchange → Type 0) (before : Ends) (calls : ℕ) (cause : Cause)
    (after : Ends) : Type 0 where
  pub turns : List Turn
  pub text : List ℕ
  pub rest : List ℕ
  pub earlier : List ℕ
  pub last : List ℕ
  pub result : Result (Unit {0}) WriteEnd
  -- the messages in what was read, each of which was asked
  pub read : Gave before.incoming.left (text ++ rest) after.incoming.left
  pub spelled : Spells (messages_of turns) text
  pub told : asked (exchanges_of turns)
  pub counted : calls ≡ length turns
  pub few : length turns ≤ reply_limit
  -- what was written
  pub sent : Sent before.outgoing earlier last result after.outgoing
  pub last_is : IsLast cause turns earlier last
  pub last_write : IsLastWrite cause result
  -- how it ended
  pub rest_is : IsRest cause rest after.incoming.left
  pub reads : CountsReads cause before.incoming.faults after.incoming.faults
  pub ends : CountsEnds cause before.incoming.ends after.incoming.ends

-- One message was asked, and what was told was written.
pub record Answers (is_told : Told → Type 0) (close : Bool) (before : Outgoing)
    (result : Result (Unit {0}) WriteEnd) (after : Outgoing) : Type 0 where
  pub told : Told
  pub tells : is_told told
  pub writes : WritesWhole before (told_bytes told close) result after
