-- Which bytes are which construct, in the words of XML 1.0: each relation says that bytes are a
-- thing and then a rest. No reader has a part in it.
use Rattle.std.specs.Prelude.{◌≡◌, ◌≤◌, ◌<◌, ℕ, ◌+◌, ◌*◌, ◌^◌, ◌==◌, ◌||◌, nat_lt, not, Bool, true, false, List, [], ◌∷◌, ◌++◌, length, map, codes, encode_utf8, Result, Ok, Err}
use Rattle.std.specs.List.{list_all}
use Rattle.junit_parts.specs.Bytes.{begins_name, continues_name, is_white}
use Rattle.junit_parts.specs.Constructs.{Text, Reference, Data, Comment, Token, Stands, Opens, Whole, Closes, Entity, Doctype, Instruction}
use Rattle.junit_parts.specs.References.{digit_value, is_scalar}
use Rattle.junit_parts.specs.Tags.{AttributeText, TagText, are_distinct, is_quote}
use Rattle.junit_parts.specs.declared.faults.Cause.TheVariants.{NotWellFormed, Unsupported}
use Rattle.junit_parts.specs.declared.faults.Flaw.{Flaw}
use Rattle.junit_parts.specs.declared.faults.Unsupported.TheVariants as unsupported
use Rattle.junit_parts.specs.declared.references.Meaning.{Meaning}
use Rattle.junit_parts.specs.declared.references.Meaning.TheVariants.{Character, Foreign}

-- white space, also none (2.3 S)
abbrev pub IsWhite : List ℕ → Type 0
IsWhite bytes = list_all is_white bytes ≡ true

-- a byte that begins a name, and bytes that go on with it (2.3 Name)
pub record IsName (name : List ℕ) : Type 0 where
  pub begins : begins_name name ≡ true
  pub goes_on : list_all continues_name name ≡ true

-- An attribute: a name, `=` with white space around it, and between two quotes a value without that
-- quote and without `<`. Its place is the value's first byte (3.1 Attribute, 2.3 AttValue).
pub record IsAttribute (bytes : List ℕ) (a : AttributeText) (rest : List ℕ) : Type 0 where
  pub before : List ℕ
  pub behind : List ℕ
  pub quote : ℕ
  pub named : IsName a.name
  pub white_before : IsWhite before
  pub white_behind : IsWhite behind
  pub quoted : is_quote quote ≡ true
  pub kept : list_all (λ b. not (b == quote || b == 60)) a.value ≡ true
  pub place : a.left ≡ length (a.value ++ quote ∷ rest)
  pub spelled : bytes ≡ a.name ++ (before ++ 61 ∷ (behind ++ quote ∷ (a.value ++ quote ∷ rest)))

-- an attribute behind white space
pub record IsNext (bytes : List ℕ) (a : AttributeText) (rest : List ℕ) : Type 0 where
  pub white : List ℕ
  pub middle : List ℕ
  pub some : 0 < length white
  pub is_white : IsWhite white
  pub spelled : bytes ≡ white ++ middle
  pub attribute : IsAttribute middle a rest

-- attributes, each behind white space
abbrev pub AreAttributes : List ℕ → List AttributeText → List ℕ → Type 0
AreAttributes bytes [] rest = bytes ≡ rest
AreAttributes bytes (a ∷ attributes) rest =
    (behind : List ℕ) × IsNext bytes a behind × AreAttributes behind attributes rest

-- a tag up to what ends it: its name, its attributes, no two of one name, and white space (3.1
-- STag, EmptyElemTag, Unique Att Spec)
pub record IsTag (bytes : List ℕ) (tag : TagText) (rest : List ℕ) : Type 0 where
  pub behind : List ℕ
  pub last : List ℕ
  pub named : IsName tag.name
  pub spelled : bytes ≡ tag.name ++ behind
  pub attributes : AreAttributes behind tag.attributes (last ++ rest)
  pub distinct : are_distinct (map (λ a. a.name) tag.attributes) ≡ true
  pub white : IsWhite last

-- What an opening and a mark enclose, up to the first place of the mark.
pub record IsEnclosed (opening text mark bytes rest : List ℕ) : Type 0 where
  pub spelled : bytes ≡ opening ++ (text ++ (mark ++ rest))
  pub first : (front behind : List ℕ)
      → text ++ (mark ++ rest) ≡ front ++ (mark ++ behind) → length text ≤ length front

-- a number in digits of a base, the most worth in front
abbrev pub worth : ℕ → List ℕ → ℕ
worth base [] = 0
worth base (d ∷ digits) = digit_value d * base ^ length digits + worth base digits

-- a number of a character, in one digit or more (4.1 CharRef)
pub record IsNumber (base : ℕ) (digits : List ℕ) (n : ℕ) : Type 0 where
  pub some : 0 < length digits
  pub digital : list_all (λ d. nat_lt (digit_value d) base) digits ≡ true
  pub says : n ≡ worth base digits
  pub scalar : is_scalar n ≡ true

-- the five names of characters (4.6)
pub data IsNamed (body : List ℕ) (n : ℕ) : Type 0 where
  lt : body ≡ codes "lt" → n ≡ 60 → IsNamed body n
  gt : body ≡ codes "gt" → n ≡ 62 → IsNamed body n
  amp : body ≡ codes "amp" → n ≡ 38 → IsNamed body n
  quot : body ≡ codes "quot" → n ≡ 34 → IsNamed body n
  apos : body ≡ codes "apos" → n ≡ 39 → IsNamed body n

-- What a reference means: a character by one of the five names, or by its number; or an entity of
-- another name.
pub data Means (body : List ℕ) (meaning : Meaning) : Type 0 where
  named : (n : ℕ) → IsNamed body n → meaning ≡ Character n → Means body meaning
  decimal : (n : ℕ) (digits : List ℕ) → body ≡ codes "#" ++ digits
      → IsNumber 10 digits n → meaning ≡ Character n → Means body meaning
  hexadecimal : (n : ℕ) (digits : List ℕ) → body ≡ codes "#x" ++ digits
      → IsNumber 16 digits n → meaning ≡ Character n → Means body meaning
  foreign : IsName body → ((n : ℕ) → ¬ IsNamed body n) → meaning ≡ Foreign → Means body meaning

-- `&`, what it means, and `;` (4.1 Reference)
pub record IsReference (bytes : List ℕ) (meaning : Meaning) (rest : List ℕ) : Type 0 where
  pub body : List ℕ
  pub enclosed : IsEnclosed (codes "&") body (codes ";") bytes rest
  pub means : Means body meaning

-- bytes up to the next `<` or `&`, or up to the end (2.4 CharData)
abbrev pub is_text_byte : ℕ → Bool
is_text_byte b = not (b == 60 || b == 38)

abbrev pub stops_text : List ℕ → Bool
stops_text [] = true
stops_text (b ∷ bs) = not (is_text_byte b)

pub record IsText (bytes text rest : List ℕ) : Type 0 where
  pub some : 0 < length text
  pub kept : list_all is_text_byte text ≡ true
  pub stops : stops_text rest ≡ true
  pub spelled : bytes ≡ text ++ rest

-- `</`, a name, white space and `>` (3.1 ETag)
pub record IsEndTag (bytes name rest : List ℕ) : Type 0 where
  pub white : List ℕ
  pub named : IsName name
  pub is_white : IsWhite white
  pub spelled : bytes ≡ codes "</" ++ (name ++ (white ++ 62 ∷ rest))

-- `<!--`, a text without `--`, and `-->` (2.5 Comment)
pub record IsComment (bytes rest : List ℕ) : Type 0 where
  pub text : List ℕ
  pub enclosed : IsEnclosed (codes "<!--") text (codes "--") bytes (62 ∷ rest)

-- The bytes up to this rest are this construct.
abbrev pub Spells : List ℕ → Token → List ℕ → Type 0
Spells bytes (Stands (Text text)) rest = IsText bytes text rest
Spells bytes (Stands (Reference c)) rest = IsReference bytes (Character c) rest
Spells bytes (Stands (Data text)) rest =
    IsEnclosed (codes "<![CDATA[") text (codes "]]>") bytes rest
Spells bytes (Stands Comment) rest = IsComment bytes rest
Spells bytes (Opens tag) rest =
    (inner : List ℕ) × (bytes ≡ 60 ∷ inner) × IsTag inner tag (62 ∷ rest)
Spells bytes (Whole tag) rest =
    (inner : List ℕ) × (bytes ≡ 60 ∷ inner) × IsTag inner tag (47 ∷ 62 ∷ rest)
Spells bytes (Closes name) rest = IsEndTag bytes name rest
Spells bytes Entity rest = IsReference bytes Foreign rest
Spells bytes Doctype rest =
    (text : List ℕ) × IsEnclosed (codes "<!DOCTYPE") text (codes ">") bytes rest
Spells bytes Instruction rest =
    (text : List ℕ) × IsEnclosed (codes "<?") text (codes "?>") bytes rest

-- A value and its text: a byte other than `&` stands for itself, and a reference for its character
-- (3.3.3, without the folding of white space).
pub data IsValue : List ℕ → List ℕ → Type 0 where
  nothing : IsValue [] []
  byte : (b : ℕ) (more text : List ℕ) → (b == 38) ≡ false
      → IsValue more text → IsValue (b ∷ more) (b ∷ text)
  character : (c : ℕ) (bytes more text : List ℕ) → IsReference bytes (Character c) more
      → IsValue more text → IsValue bytes (encode_utf8 c ++ text)

-- A value with a faulty reference: the first, to an entity of another name or to none at all.
pub data IsFaulty : List ℕ → Flaw → Type 0 where
  entity : (bytes more : List ℕ) → IsReference bytes Foreign more
      → IsFaulty bytes (record { left = length bytes; cause = Unsupported unsupported.Entity })
  broken : (more : List ℕ)
      → ((meaning : Meaning) (rest : List ℕ) → ¬ IsReference (38 ∷ more) meaning rest)
      → IsFaulty (38 ∷ more) (record { left = length (38 ∷ more); cause = NotWellFormed })
  behind_byte : (b : ℕ) (more : List ℕ) (flaw : Flaw) → (b == 38) ≡ false
      → IsFaulty more flaw → IsFaulty (b ∷ more) flaw
  behind_character : (c : ℕ) (bytes more : List ℕ) (flaw : Flaw)
      → IsReference bytes (Character c) more → IsFaulty more flaw → IsFaulty bytes flaw

-- The bytes are a value of this text, or have this flaw.
abbrev pub SpellsValue : List ℕ → Result (List ℕ) Flaw → Type 0
SpellsValue bytes (Ok text) = IsValue bytes text
SpellsValue bytes (Err flaw) = IsFaulty bytes flaw
