-- The code's own words, which private contracts alone cite: the few ends of which one makes bytes a
-- reply's head, where any bytes do.
use Rattle.std.specs.Prelude.{◌≡◌, ◌<◌, ℕ, List, ◌++◌, codes, drop}
use Rattle.httparse.specs.Grammar.{ResponseHead, print_response}
use Rattle.sink_replies.specs.Replies.{IsReplyHead}

-- The bytes are a reply's head, and no more.
pub record IsHeadAlone (bytes : List ℕ) : Type 0 where
  pub h : ResponseHead
  pub len : ℕ
  pub is_head : IsReplyHead h len
  pub parts : bytes ≡ print_response h

-- a short head that announces no body, behind the end of an empty line
abbrev pub last_lines : List ℕ
last_lines = codes "\nHTTP/1.1 200\ncontent-length:0\n\n"

-- With a rest of that head, or with what ends another field's line in front of its own, the bytes
-- are a reply's head.
pub data CanEnd (bytes : List ℕ) : Type 0 where
  by_lines : (k : ℕ) → k < 32 → IsHeadAlone (bytes ++ drop k last_lines) → CanEnd bytes
  by_field : IsHeadAlone (bytes ++ codes ":\ncontent-length:0\n\n") → CanEnd bytes
  by_name : IsHeadAlone (bytes ++ codes ":\n\n") → CanEnd bytes
  by_letter : IsHeadAlone (bytes ++ codes "x:\n\n") → CanEnd bytes
