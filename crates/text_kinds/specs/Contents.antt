-- Contents: bytes in standard base64 (RFC 4648, section 4) with padding.
use Rattle.std.specs.Prelude.{◌≡◌, ℕ, nat_lt, if◌then◌else◌, List, length, Option, Some, None}
use Rattle.base64.specs.Engines.{standard}
use Rattle.base64.specs.GeneralPurpose.{encode_of, decoded_of}
use Rattle.json_fields.specs.declared.whys.Why.{Why}
use Rattle.json_fields.specs.declared.whys.Why.TheVariants.{TooLong, NotBase64}

-- at most 1 MiB, of which so many bytes are too many
abbrev pub most_of_contents : ℕ
most_of_contents = 1048576

abbrev pub contents_why_of : Option (List ℕ) → Option Why
contents_why_of None = Some NotBase64
contents_why_of (Some bytes) =
    if nat_lt most_of_contents (length bytes) then Some (TooLong (length bytes)) else None

-- A text that no bytes encode to is refused first, and then one that encodes too many.
abbrev pub contents_why : List ℕ → Option Why
contents_why text = contents_why_of (decoded_of standard text)

-- the text is the encoding of the bytes
abbrev pub Encodes : List ℕ → List ℕ → Type 0
Encodes text bytes = text ≡ encode_of standard bytes
