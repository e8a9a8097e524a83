-- What one link took and gave while requests were sent on it.
use Rattle.std.specs.Prelude.{◌≡◌, ◌≢◌, ℕ, ◌≤◌, ◌⊎◌, List, [], ◌∷◌, ◌++◌, length, take, drop, All}
use Rattle.std.specs.List.{concat}
use Rattle.fault_counts.specs.Causes.{Rose, counted}
use Rattle.outside.specs.Bytes.{Gave, Took, IsEnd}
use Rattle.outside.specs.Ends.{Ends}
use Rattle.sink_replies.specs.Replies.{IsReply, HasReply, BeginsNoReply, IsUnfinished}
use Rattle.sink_uploads.specs.declared.visit.Parting.{Parting}
use Rattle.sink_uploads.specs.declared.visit.Parting.TheVariants.{Done, Fault, End, Refused, BadReply}

-- What was sent and read: the whole replies of status 200, in order, one to each request that was
-- written whole before them; what was taken of the request behind those; what was read behind the
-- replies; and how the visit ended.
pub record Trace : Type 0 where
  pub replies : List (List ℕ)
  pub part : List ℕ
  pub rest : List ℕ
  pub parting : Parting

-- No call failed, reached the end or took nothing.
pub record IsQuiet (before after : Ends) : Type 0 where
  pub reads : after.incoming.faults ≡ before.incoming.faults
  pub ends : after.incoming.ends ≡ before.incoming.ends
  pub writes : after.outgoing.faults ≡ before.outgoing.faults
  pub stalls : after.outgoing.stalls ≡ before.outgoing.stalls

-- the count rose
abbrev pub HasRisen : ℕ → ℕ → Type 0
HasRisen before now = (before ≤ now) × Rose before now

-- A front of the request was taken, and then a write failed.
pub record WriteFailed (request part : List ℕ) (before after : Ends) : Type 0 where
  pub behind : List ℕ
  pub front : request ≡ part ++ behind
  pub reads : after.incoming.faults ≡ before.incoming.faults
  pub ends : after.incoming.ends ≡ before.incoming.ends
  pub writes : HasRisen before.outgoing.faults after.outgoing.faults
  pub stalls : after.outgoing.stalls ≡ before.outgoing.stalls

-- A front of the request was taken, and then a write took nothing.
pub record TookNothing (request part : List ℕ) (before after : Ends) : Type 0 where
  pub behind : List ℕ
  pub front : request ≡ part ++ behind
  pub reads : after.incoming.faults ≡ before.incoming.faults
  pub ends : after.incoming.ends ≡ before.incoming.ends
  pub writes : after.outgoing.faults ≡ before.outgoing.faults
  pub stalls : HasRisen before.outgoing.stalls after.outgoing.stalls

-- The request was taken whole, and a read failed before its reply was whole.
pub record ReadFailed (request part rest : List ℕ) (before after : Ends) : Type 0 where
  pub whole : part ≡ request
  pub unfinished : IsUnfinished rest
  pub reads : HasRisen before.incoming.faults after.incoming.faults
  pub ends : after.incoming.ends ≡ before.incoming.ends
  pub writes : after.outgoing.faults ≡ before.outgoing.faults
  pub stalls : after.outgoing.stalls ≡ before.outgoing.stalls

-- The request was taken whole, and the link ended before its reply was whole.
pub record HasEnded (request part rest : List ℕ) (before after : Ends) : Type 0 where
  pub whole : part ≡ request
  pub unfinished : IsUnfinished rest
  pub at_end : IsEnd after.incoming.left
  pub reads : after.incoming.faults ≡ before.incoming.faults
  pub ends : after.incoming.ends ≡ counted before.incoming.ends
  pub writes : after.outgoing.faults ≡ before.outgoing.faults
  pub stalls : after.outgoing.stalls ≡ before.outgoing.stalls

-- The request was taken whole, and its reply has another status than 200.
pub record IsRefused (request part rest : List ℕ) (before after : Ends) (status : ℕ) : Type 0 where
  pub whole : part ≡ request
  pub others : List ℕ
  pub reply : HasReply rest status others
  pub other : status ≢ 200
  pub quiet : IsQuiet before after

-- The request was taken whole, and what came begins no reply.
pub record IsAnsweredBadly (request part rest : List ℕ) (before after : Ends) (end : ℕ)
    : Type 0 where
  pub whole : part ≡ request
  pub within : end ≤ length rest
  pub bad : BeginsNoReply (take end rest)
  pub quiet : IsQuiet before after

-- How a visit ended at a request.
abbrev pub EndsAt : List ℕ → List ℕ → List ℕ → Ends → Ends → Parting → Type 0
EndsAt request part rest before after Done = ⊥
EndsAt request part rest before after Fault =
    WriteFailed request part before after ⊎ ReadFailed request part rest before after
EndsAt request part rest before after End =
    TookNothing request part before after ⊎ HasEnded request part rest before after
EndsAt request part rest before after (Refused status) =
    IsRefused request part rest before after status
EndsAt request part rest before after (BadReply end) =
    IsAnsweredBadly request part rest before after end

-- How it ended, where these requests weren't answered: at the first of them, or done where there is
-- none.
abbrev pub EndsVisit : List (List ℕ) → List ℕ → List ℕ → Ends → Ends → Parting → Type 0
EndsVisit [] part rest before after parting =
    (parting ≡ Done) × (part ≡ []) × IsQuiet before after
EndsVisit (request ∷ requests) part rest before after parting =
    EndsAt request part rest before after parting

-- What a link took and gave: the requests that were answered, each whole, and then a part of the
-- next; and their replies, and then the rest.
pub record Carried (requests : List (List ℕ)) (trace : Trace) (before after : Ends) : Type 0 where
  pub took : Took before.outgoing.written
      (concat (take (length trace.replies) requests) ++ trace.part) after.outgoing.written
  pub gave : Gave before.incoming.left (concat trace.replies ++ trace.rest) after.incoming.left
  pub answered : length trace.replies ≤ length requests
  pub replies : All (λ reply. IsReply reply 200) trace.replies
  pub ended : EndsVisit (drop (length trace.replies) requests) trace.part trace.rest before after
      trace.parting

-- The code's own word: a visit that is done answered each request.
abbrev pub IsDoneAt : List (List ℕ) → ℕ → Parting → Type 0
IsDoneAt requests answered parting = parting ≡ Done → answered ≡ length requests
