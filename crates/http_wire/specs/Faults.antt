-- The faults of a stream, in the order in which they are judged. The first that is there is
-- answered.
use Rattle.std.specs.Prelude.{ℕ, ◌&&◌, Bool, true, false, not, List, [], ◌∷◌, ◌++◌, length, codes}
use Rattle.std.specs.Prelude.{nat_lt, nat_le, Option, Some, None, if◌then◌else◌}
use Rattle.httparse.specs.Grammar.{RequestHead}
use Rattle.http_wire.specs.Form.{values_of, fields_of, is_length, length_of, body_length}
use Rattle.http_wire.specs.Form.{body_limit, is_post}
use Rattle.http_wire.specs.Head.{head_limit}
use Rattle.http_wire.specs.declared.message.WireFault.{WireFault}
use Rattle.http_wire.specs.declared.message.WireFault.TheVariants.{HeadTooLong, TooManyHeaders}
use Rattle.http_wire.specs.declared.message.WireFault.TheVariants.{BadHead, NoLength, TwoLengths}
use Rattle.http_wire.specs.declared.message.WireFault.TheVariants.{TransferCoded, BodyTooLong}
use Rattle.http_wire.specs.declared.message.WireFault.TheVariants.{CutShort}

-- a fault, and whether it is there
pub record Sign : Type 0 where
  pub fault : WireFault
  pub is_there : Bool

abbrev pub sign : WireFault → Bool → Sign
sign fault is_there = record { fault = fault; is_there = is_there }

-- the first fault that is there
abbrev pub first_there : List Sign → Option WireFault
first_there [] = None
first_there (s ∷ signs) = if s.is_there then Some s.fault else first_there signs

-- there is a value
abbrev pub is_some_value : List (List ℕ) → Bool
is_some_value values = nat_lt 0 (length values)

-- one value alone, which is no length
abbrev pub is_bad_length : List (List ℕ) → Bool
is_bad_length [] = false
is_bad_length (text ∷ []) = not (is_length text)
is_bad_length (text ∷ other ∷ others) = false

-- the faults of the lengths, and of the codings, that the fields give
abbrev pub length_signs : Bool → ℕ → List (List ℕ) → List (List ℕ) → List Sign
length_signs post end lengths codings =
    sign (BadHead end) (is_bad_length lengths)
    ∷ sign TransferCoded (is_some_value codings)
    ∷ sign TwoLengths (nat_lt 1 (length lengths))
    ∷ sign NoLength (post && not (is_some_value lengths))
    ∷ sign (BodyTooLong (length_of lengths)) (nat_lt body_limit (length_of lengths))
    ∷ []

-- the faults of a head that is read, of so many bytes
abbrev pub field_signs : ℕ → RequestHead → List Sign
field_signs end h =
    length_signs (is_post h) end
    (values_of (codes "content-length") (fields_of h))
    (values_of (codes "transfer-encoding") (fields_of h))

-- the most header lines that a head has
abbrev pub header_limit : ℕ
header_limit = 64

-- the faults of a head of so many bytes and header lines, in which this is read, or nothing
abbrev pub head_signs : ℕ → ℕ → Option RequestHead → List Sign
head_signs end lines None =
    sign TooManyHeaders (nat_lt header_limit lines) ∷ sign (BadHead end) true ∷ []
head_signs end lines (Some h) =
    sign TooManyHeaders (nat_lt header_limit lines) ∷ field_signs end h

-- What stands in front of a stream: the text of a head, how many header lines it has, what is read
-- in it, and what follows it.
pub record Front : Type 0 where
  pub text : List ℕ
  pub lines : ℕ
  pub read : Option RequestHead
  pub rest : List ℕ

-- the length of the body that follows
abbrev pub length_behind : Option RequestHead → ℕ
length_behind None = 0
length_behind (Some h) = body_length h

-- the faults of a stream, in front of which this stands, or no head within the limit
abbrev pub signs_of : List ℕ → Option Front → List Sign
signs_of bytes None =
    sign HeadTooLong (nat_le head_limit (length bytes))
    ∷ sign (CutShort (length bytes)) (nat_lt 0 (length bytes))
    ∷ []
signs_of bytes (Some f) =
    head_signs (length f.text) f.lines f.read
    ++ sign (CutShort (length bytes)) (nat_lt (length f.rest) (length_behind f.read)) ∷ []
