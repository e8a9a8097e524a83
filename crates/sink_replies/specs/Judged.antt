-- The code's own word, which private contracts alone cite: what bytes are so far.
use Rattle.std.specs.Prelude.{◌≡◌, ◌≤◌, ◌<◌, ℕ, List, ◌++◌, length, take}
use Rattle.httparse.specs.Grammar.{ResponseHead, print_response, status_code}
use Rattle.httparse.specs.Grammar.{HasNoResponse}
use Rattle.sink_replies.specs.Replies.{IsReplyHead, MayBecomeHead, BeginsNoReply}
use Rattle.sink_replies.specs.declared.heads.Judged.{Judged}
use Rattle.sink_replies.specs.declared.heads.Judged.TheVariants.{Head, Unfinished, NoReply}
use Rattle.sink_replies.specs.declared.heads.ReplyHead.{ReplyHead}

-- This head of a reply stands in front of the bytes.
pub record IsInFront (bytes : List ℕ) (head : ReplyHead) : Type 0 where
  pub h : ResponseHead
  pub rest : List ℕ
  pub is_head : IsReplyHead h head.body
  pub parts : bytes ≡ print_response h ++ rest
  pub len_is : head.len ≡ length (print_response h)
  pub status_is : head.status ≡ status_code h

-- They begin a head that isn't whole yet.
pub record IsBegun (bytes : List ℕ) : Type 0 where
  pub may_become : MayBecomeHead bytes
  pub none : HasNoResponse bytes
  pub short : length bytes < 16384

abbrev pub IsJudged : List ℕ → Judged → Type 0
IsJudged bytes (Head head) = IsInFront bytes head
IsJudged bytes Unfinished = IsBegun bytes
IsJudged bytes (NoReply end) = (end ≤ length bytes) × BeginsNoReply (take end bytes)
