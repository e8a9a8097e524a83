-- Messages and what was told for them.
use Rattle.std.specs.Prelude.{◌≡◌, ℕ, ◌+◌, true, List, [], ◌∷◌, ◌++◌, length, map}
use Rattle.call_forms.specs.ReplyBytes.{told_bytes}
use Rattle.call_forms.specs.declared.forms.Told.{Told}
use Rattle.tellers.specs.Exchange.{Exchange}
use Rattle.http_wire.specs.Stream.{closes, StayOpen}
use Rattle.http_wire.specs.declared.message.Message.{Message}

-- A message, and what was told for it.
pub record Turn : Type 0 where
  pub message : Message
  pub told : Told

abbrev pub messages_of : List Turn → List Message
messages_of turns = map (λ t. t.message) turns

abbrev pub exchange_in : Turn → Exchange
exchange_in t = record { asked = t.message.asked; told = t.told }

abbrev pub exchanges_of : List Turn → List Exchange
exchanges_of turns = map exchange_in turns

-- No message but the last one closes the connection.
pub record OthersStay (messages : List Message) : Type 0 where
  pub others : List Message
  pub last : Message
  pub parts : messages ≡ others ++ last ∷ []
  pub stay : StayOpen 0 others

-- The last message closes the connection, and no other one does.
pub record LastCloses (messages : List Message) : Type 0 where
  pub others : List Message
  pub last : Message
  pub parts : messages ≡ others ++ last ∷ []
  pub stay : StayOpen 0 others
  pub closing : closes (length others) last ≡ true

-- the replies of these turns, before which there were so many
abbrev pub replies_from : ℕ → List Turn → List ℕ
replies_from before [] = []
replies_from before (t ∷ ts) =
    told_bytes t.told (closes before t.message) ++ replies_from (before + 1) ts

abbrev pub replies : List Turn → List ℕ
replies turns = replies_from 0 turns
