-- The code's own word, which private contracts alone cite: what one try of a request did.
use Rattle.std.specs.Prelude.{◌≡◌, ℕ, List, ◌++◌, Result, Ok, Err}
use Rattle.outside.specs.Bytes.{Gave, Took}
use Rattle.outside.specs.Ends.{Ends}
use Rattle.sink_replies.specs.Replies.{HasReply}
use Rattle.sink_uploads.specs.Visits.{IsQuiet, EndsAt}
use Rattle.sink_uploads.specs.declared.visit.Parting.{Parting}

-- The request was answered, or the visit ends at it. All of these bytes were held or read.
abbrev pub IsTry : {T : Type 0} → List ℕ → List ℕ → List ℕ → Ends → Ends → Result T Parting → List ℕ
    → Type 0
IsTry request part bytes before after (Ok done) now =
    (part ≡ request) × HasReply bytes 200 now × IsQuiet before after
IsTry request part bytes before after (Err parting) now =
    EndsAt request part bytes before after parting

pub record Tries {T : Type 0} (request held : List ℕ) (before : Ends) (result : Result T Parting)
    (now : List ℕ) (after : Ends) : Type 0 where
  pub part : List ℕ
  pub got : List ℕ
  pub took : Took before.outgoing.written part after.outgoing.written
  pub gave : Gave before.incoming.left got after.incoming.left
  pub answer : IsTry request part (held ++ got) before after result now
