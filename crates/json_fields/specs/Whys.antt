-- Why a value is refused, and the text of it.
use Rattle.std.specs.Prelude.{ℕ, List, [], ◌++◌, codes, decimal, Option, Some, None}
use Rattle.names_realms.specs.NameParts.declared.faults.NameFault.{NameFault}
use Rattle.names_realms.specs.NameParts.declared.faults.NameFault.TheVariants as name
use Rattle.json_fields.specs.declared.whys.Why.{Why}
use Rattle.json_fields.specs.declared.whys.Why.TheVariants.{Empty, TooLong, BadByte, NotCanonical, OutOfRange, Negative, Unknown, NotWhole, TooDeep, TooMany, Differs, NotBase64, BadForm, OtherQuery, OutOfProfile, NotBuilt, NotUpdatable, Twice}

-- why a text is refused by its grammar; want of memory is no fault of the text
abbrev pub why_of : NameFault → Option Why
why_of name.Empty = Some Empty
why_of (name.TooLong len) = Some (TooLong len)
why_of (name.BadByte at) = Some (BadByte at)
why_of (name.NotCanonical at) = Some (NotCanonical at)
why_of name.OutOfRange = Some OutOfRange
why_of name.Memory = None

abbrev pub why_name : Why → List ℕ
why_name Empty = codes "Empty"
why_name (TooLong n) = codes "TooLong"
why_name (BadByte n) = codes "BadByte"
why_name (NotCanonical n) = codes "NotCanonical"
why_name OutOfRange = codes "OutOfRange"
why_name Negative = codes "Negative"
why_name Unknown = codes "Unknown"
why_name NotWhole = codes "NotWhole"
why_name TooDeep = codes "TooDeep"
why_name (TooMany n) = codes "TooMany"
why_name Differs = codes "Differs"
why_name NotBase64 = codes "NotBase64"
why_name (BadForm n) = codes "BadForm"
why_name OtherQuery = codes "OtherQuery"
why_name OutOfProfile = codes "OutOfProfile"
why_name NotBuilt = codes "NotBuilt"
why_name NotUpdatable = codes "NotUpdatable"
why_name Twice = codes "Twice"

-- the length, the place or the count that it says
abbrev pub why_number : Why → Option ℕ
why_number Empty = None
why_number (TooLong n) = Some n
why_number (BadByte n) = Some n
why_number (NotCanonical n) = Some n
why_number OutOfRange = None
why_number Negative = None
why_number Unknown = None
why_number NotWhole = None
why_number TooDeep = None
why_number (TooMany n) = Some n
why_number Differs = None
why_number NotBase64 = None
why_number (BadForm n) = Some n
why_number OtherQuery = None
why_number OutOfProfile = None
why_number NotBuilt = None
why_number NotUpdatable = None
why_number Twice = None

abbrev pub number_part : Option ℕ → List ℕ
number_part None = []
number_part (Some n) = codes " " ++ decimal n

-- its name, and behind a space its number
abbrev pub why_text : Why → List ℕ
why_text w = why_name w ++ number_part (why_number w)
