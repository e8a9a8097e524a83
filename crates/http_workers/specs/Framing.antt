-- The messages that were answered are those of the stream that was to be read.
use Rattle.std.specs.Prelude.{◌≡◌, ℕ, List, ◌++◌, Option, Some, None}
use Rattle.outside.specs.Ends.{Ends}
use Rattle.tellers.specs.Exchange.{Exchange}
use Rattle.http_wire.specs.Stream.{Framed}
use Rattle.http_wire.specs.declared.message.End.{End}
use Rattle.http_wire.specs.declared.message.Message.{Message}
use Rattle.http_workers.specs.Turns.{messages_of}
use Rattle.http_workers.specs.Causes.{row_of}
use Rattle.http_workers.specs.Connection.{Connection}
use Rattle.http_workers.specs.declared.ended.Cause.{Cause}

-- However the stream goes on, its first messages are these.
abbrev pub AreFirst : List Message → List ℕ → Type 0
AreFirst ms stream =
    (all : List Message) (end : End) → Framed stream all end
    → (others : List Message) × (all ≡ ms ++ others)

-- The messages are all of the stream's, and its end is this one; or where no end was reached, they
-- are its first ones.
abbrev pub AreMessages : Option End → List Message → List ℕ → Type 0
AreMessages (Some end) ms stream = Framed stream ms end
AreMessages None ms stream = AreFirst ms stream

-- A connection, whose messages are those of all that was left to read at its start.
pub record Served (asked : List Exchange → Type 0) (before : Ends) (calls : ℕ) (cause : Cause)
    (after : Ends) : Type 0 where
  pub connection : Connection asked before calls cause after
  pub framed : (stream : List ℕ) → before.incoming.left ≡ Some stream
      → AreMessages (row_of cause).end (messages_of connection.turns) stream
