-- A stream as messages one after the other, and what follows them.
use Rattle.std.specs.Prelude.{◌≡◌, ℕ, ◌+◌, ◌==◌, ◌≤◌, ◌||◌, ◌⊎◌, Bool, false, List, [], ◌∷◌, ◌++◌}
use Rattle.std.specs.Prelude.{length, Option, Some, None}
use Rattle.std.specs.Bool.{MatchBool}
use Rattle.httparse.specs.Grammar.{RequestHead, IsRequestHead, print_request}
use Rattle.http_wire.specs.Head.{IsHeadText, head_limit}
use Rattle.http_wire.specs.Form.{body_length}
use Rattle.http_wire.specs.Faults.{Front, header_limit, first_there, head_signs, signs_of}
use Rattle.http_wire.specs.Says.{IsMessageOf}
use Rattle.http_wire.specs.declared.message.Message.{Message}
use Rattle.http_wire.specs.declared.message.End.{End}
use Rattle.http_wire.specs.declared.message.End.TheVariants.{Finished, Closed, Fault}
use Rattle.http_wire.specs.declared.message.WireFault.{WireFault}
use Rattle.http_wire.specs.declared.message.WireFault.TheVariants.{CutShort}

-- ---- messages

-- a head within the limit that has no fault, and the length of the body that it announces
pub record Announces (h : RequestHead) (len : ℕ) : Type 0 where
  pub head : IsRequestHead h
  pub short : length (print_request h) ≤ head_limit
  pub sound : first_there (head_signs (length (print_request h)) (length h.fields) (Some h)) ≡ None
  pub len_is : len ≡ body_length h

-- the bytes are one message: a head, and so many bytes of body as it announces
pub record IsMessage (bytes : List ℕ) (m : Message) : Type 0 where
  pub h : RequestHead
  pub body : List ℕ
  pub announced : Announces h (length body)
  pub parts : bytes ≡ print_request h ++ body
  pub says : IsMessageOf h body m

-- ---- faults

-- The text of a head of so many header lines is this head of the grammar, of HTTP/1.0 or HTTP/1.1.
-- It is none where it has more lines than a head may have.
abbrev pub IsRead : List ℕ → ℕ → Option RequestHead → Type 0
IsRead text lines (Some h) = (lines ≤ header_limit) × IsRequestHead h × (text ≡ print_request h)
IsRead text lines None =
    lines ≤ header_limit → (h : RequestHead) → IsRequestHead h → ¬ (text ≡ print_request h)

-- a head's text within the limit, and what follows it
pub record Begins (bytes : List ℕ) (f : Front) : Type 0 where
  pub parts : bytes ≡ f.text ++ f.rest
  pub head : IsHeadText f.text f.lines
  pub short : length f.text ≤ head_limit
  pub read : IsRead f.text f.lines f.read

-- no front of the bytes is a head's text within the limit
abbrev pub HasNoFront : List ℕ → Type 0
HasNoFront bytes =
    (text rest : List ℕ) (lines : ℕ) → bytes ≡ text ++ rest → length text ≤ head_limit
    → ¬ (IsHeadText text lines)

-- what stands in front of the bytes
abbrev pub IsFront : List ℕ → Option Front → Type 0
IsFront bytes (Some f) = Begins bytes f
IsFront bytes None = HasNoFront bytes

-- The fault that a stream has by itself: the first of those that are there. A failed read and want
-- of memory are none.
pub record HasFault (bytes : List ℕ) (fault : WireFault) : Type 0 where
  pub front : Option Front
  pub is_front : IsFront bytes front
  pub first : first_there (signs_of bytes front) ≡ Some fault

-- what stands behind the last message, where the connection goes on
abbrev pub HasEnd : List ℕ → End → Type 0
HasEnd bytes Finished = bytes ≡ []
HasEnd bytes Closed = ⊥
HasEnd bytes (Fault fault) = HasFault bytes fault

-- An input that ended here would be nothing left, or cut short.
abbrev pub IsUndecided : List ℕ → Type 0
IsUndecided bytes = (bytes ≡ []) ⊎ HasFault bytes (CutShort (length bytes))

-- ---- streams

-- the most replies of one connection: the last of them closes it
abbrev pub reply_limit : ℕ
reply_limit = 1048576

-- The connection ends after a reply that says so, and after the last one, where there were so many
-- before it.
abbrev pub closes_at : ℕ → Bool → Bool
closes_at before close = close || (before + 1 == reply_limit)

-- it ends after the reply to this message
abbrev pub closes : ℕ → Message → Bool
closes before m = closes_at before m.close

-- The bytes are these messages one after the other, before which there were so many, and then this
-- end. A message that closes is the last one, whatever follows it.
abbrev pub FramedFrom : ℕ → List ℕ → List Message → End → Type 0
FramedFrom before bytes [] end = HasEnd bytes end
FramedFrom before bytes (m ∷ ms) end =
    (front : List ℕ) × (rest : List ℕ) × IsMessage front m × (bytes ≡ front ++ rest)
    × MatchBool (closes before m) ((ms ≡ []) × (end ≡ Closed)) (FramedFrom (before + 1) rest ms end)

abbrev pub Framed : List ℕ → List Message → End → Type 0
Framed bytes ms end = FramedFrom 0 bytes ms end

-- the bytes are these messages one after the other, and nothing else
abbrev pub Spells : List Message → List ℕ → Type 0
Spells [] bytes = bytes ≡ []
Spells (m ∷ ms) bytes =
    (front : List ℕ) × (rest : List ℕ) × IsMessage front m × (bytes ≡ front ++ rest)
    × Spells ms rest

-- none of these messages closes, before which there were so many
abbrev pub StayOpen : ℕ → List Message → Type 0
StayOpen before [] = Unit {0}
StayOpen before (m ∷ ms) = (closes before m ≡ false) × StayOpen (before + 1) ms
