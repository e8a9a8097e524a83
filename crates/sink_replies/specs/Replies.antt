-- Which bytes are a reply: a head of HTTP/1.x (RFC 9112, sections 2 and 4) that announces its body,
-- and the body.
use Rattle.std.specs.Prelude.{◌≡◌, ℕ, ◌<◌, ◌≤◌, true, List, [], ◌∷◌, ◌++◌, length, map, codes}
use Rattle.std.specs.Str.Parse.{digits_value}
use Rattle.httparse.specs.Grammar.{ResponseHead, IsResponseHead, print_response, status_code}
use Rattle.httparse.specs.Grammar.{HasNoResponse}
use Rattle.httparse.specs.Spans.{name_and_value}
use Rattle.http_wire.specs.Form.{values_of, is_length}

-- The values of Content-Length are one alone, of 1 to 10 digits, which isn't over 4,194,304.
pub record IsOneLength (values : List (List ℕ)) (len : ℕ) : Type 0 where
  pub value : List ℕ
  pub alone : values ≡ value ∷ []
  pub digits : is_length value ≡ true
  pub len_is : len ≡ digits_value 10 value
  pub small : len ≤ 4194304

-- the values under Content-Length in a head
abbrev pub lengths_in : ResponseHead → List (List ℕ)
lengths_in h = values_of (codes "content-length") (map name_and_value h.fields)

-- A head of at most 16,384 bytes and 64 headers, behind which so many bytes of body follow.
pub record IsReplyHead (h : ResponseHead) (len : ℕ) : Type 0 where
  pub head : IsResponseHead h
  pub short : length (print_response h) ≤ 16384
  pub few : length h.fields ≤ 64
  pub announced : IsOneLength (lengths_in h) len

-- The bytes are a reply with this status: a head, and as much body as it announces.
pub record IsReply (bytes : List ℕ) (status : ℕ) : Type 0 where
  pub h : ResponseHead
  pub body : List ℕ
  pub head : IsReplyHead h (length body)
  pub parts : bytes ≡ print_response h ++ body
  pub status_is : status ≡ status_code h

-- A reply stands in front of the bytes, and this follows it.
pub record HasReply (bytes : List ℕ) (status : ℕ) (rest : List ℕ) : Type 0 where
  pub reply : List ℕ
  pub is_reply : IsReply reply status
  pub parts : bytes ≡ reply ++ rest

-- Whatever follows the bytes, no reply stands in front.
abbrev pub BeginsNoReply : List ℕ → Type 0
BeginsNoReply bytes =
    (more rest : List ℕ) (status : ℕ) → ¬ (HasReply (bytes ++ more) status rest)

-- Some bytes can follow that make these a reply's head.
abbrev pub MayBecomeHead : List ℕ → Type 0
MayBecomeHead bytes =
    (more : List ℕ) × (h : ResponseHead) × (len : ℕ) × IsReplyHead h len
    × (bytes ++ more ≡ print_response h)

-- No reply stands in front of the bytes yet, and one can: they can go on as a reply's head; or a
-- reply's head stands in front, and less than its body behind it.
pub data IsUnfinished (bytes : List ℕ) : Type 0 where
  in_head : MayBecomeHead bytes → HasNoResponse bytes → IsUnfinished bytes
  in_body : (h : ResponseHead) (len : ℕ) (part : List ℕ) → IsReplyHead h len
      → bytes ≡ print_response h ++ part → length part < len → IsUnfinished bytes
