-- The code's own word, which private contracts alone cite: what stands first in a stream.
use Rattle.std.specs.Prelude.{ℕ, ◌+◌, ◌<◌, ◌≤◌, List, length, take, drop}
use Rattle.httparse.specs.Grammar.{RequestHead}
use Rattle.http_wire.specs.Says.{IsMessageOf}
use Rattle.http_wire.specs.Announced.{IsSaid}
use Rattle.http_wire.specs.Stream.{IsMessage, HasEnd}
use Rattle.http_wire.specs.declared.message.Message.{Message}
use Rattle.http_wire.specs.declared.request.Request.{Request}
use Rattle.http_wire.specs.declared.plain.First.{First}
use Rattle.http_wire.specs.declared.plain.First.TheVariants.{Message as FirstMessage}
use Rattle.http_wire.specs.declared.plain.First.TheVariants.{End as FirstEnd}

-- a head of so many bytes that says this, and the body that it announces
pub record IsFirstMessage (stream : List ℕ) (head : ℕ) (r : Request) : Type 0 where
  pub some : 0 < head
  pub fits : head + r.len ≤ length stream
  pub h : RequestHead
  pub said : IsSaid h r
  pub message : (m : Message) → IsMessageOf h (take r.len (drop head stream)) m
      → IsMessage (take (head + r.len) stream) m

-- a message, or the end
abbrev pub IsFirst : List ℕ → First → Type 0
IsFirst stream (FirstMessage head request) = IsFirstMessage stream head request
IsFirst stream (FirstEnd e) = HasEnd stream e
