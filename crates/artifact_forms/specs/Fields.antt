-- Kinds of fields of artifacts.
use Rattle.std.specs.Prelude.{◌≡◌, ◌≤◌, ◌<◌, ◌==◌, ℕ, if◌then◌else◌, List, length, Option, Some, None}
use Rattle.std.specs.Option.{ForSome}
use Rattle.std.specs.Str.{IsUtf8}
use Rattle.base64.specs.GeneralPurpose.{IsBytes}
use Rattle.serde_json.specs.Data.{Data}
use Rattle.json_fields.specs.Texts.{IsText}
use Rattle.json_fields.specs.declared.faults.FieldFault.{FieldFault}
use Rattle.json_fields.specs.declared.whys.Why.{Why}
use Rattle.field_kinds.specs.TextKinds.Texts.{a_string, limited_why, printed, most_of_content_type}
use Rattle.field_kinds.specs.TextKinds.Contents.{contents_why, most_of_contents, Encodes}
use Rattle.field_kinds.specs.TextKinds.Hashes.{hash_why}
use Rattle.field_kinds.specs.Defaults.{HoldsOr}
use Rattle.field_kinds.specs.Numbers.{a_whole, IsSaid, most_of_bytes}
use Rattle.artifact_forms.specs.Hashes.{IsDigest, SpellsHash}

-- what a content is: at most 128 bytes that print
abbrev pub type_why : List ℕ → Option Why
type_why = limited_why 0 most_of_content_type printed

abbrev pub a_type : Data → Option FieldFault
a_type = a_string type_why

abbrev pub IsContentType : List ℕ → Type 0
IsContentType text = IsUtf8 text × (type_why text ≡ None)

-- contents in base64, and the bytes that they are
abbrev pub some_contents : Data → Option FieldFault
some_contents = a_string contents_why

abbrev pub IsContentsOf : Data → List ℕ → Type 0
IsContentsOf d bytes = IsText Encodes d bytes × IsBytes bytes

abbrev pub AreContents : List ℕ → Type 0
AreContents bytes = IsBytes bytes × (length bytes ≤ most_of_contents)

-- how many bytes there are, of which 0 says nothing
abbrev pub a_size : Data → Option FieldFault
a_size = a_whole most_of_bytes

abbrev pub unless_0 : ℕ → Option ℕ
unless_0 n = if n == 0 then None else Some n

pub record SaysSize (o : Option Data) (size : Option ℕ) : Type 0 where
  pub number : ℕ
  pub said : HoldsOr IsSaid 0 o number
  pub is : size ≡ unless_0 number

abbrev pub IsSize : Option ℕ → Type 0
IsSize size = ForSome size (λ n. (0 < n) × (n ≤ most_of_bytes))

-- a hash, and its bytes
abbrev pub a_hash : Data → Option FieldFault
a_hash = a_string hash_why

abbrev pub IsHashOf : Data → List ℕ → Type 0
IsHashOf d hash = IsText SpellsHash d hash

abbrev pub IsHash : Option (List ℕ) → Type 0
IsHash hash = ForSome hash IsDigest
