-- Laws of parts: the bad place that a fault names is the first that breaks the grammar.
use Rattle.std.specs.Prelude.{◌≡◌, ◌≢◌, ◌⊎◌, ◌<◌, ◌≤◌, ◌++◌, ◌∷◌, ℕ, List, length, take, drop, Some, None, true}
use Rattle.std.specs.List.{list_all}
use Rattle.name_parts.specs.declared.alphabets.Alphabet.{Alphabet}
use Rattle.name_parts.specs.declared.faults.NameFault.TheVariants.{BadByte, NotCanonical}
use Rattle.name_parts.specs.declared.names.Piece.{Piece}
use Rattle.name_parts.specs.declared.parts.PartForm.{PartForm}
use Rattle.percent_encoding.specs.Percent.{percent_decode}
use Rattle.name_parts.specs.Grammar.{GoesOn, IsFirstBadPlace}
use Rattle.name_parts.specs.Parts.{alphabet_place, bad_place, has_alphabet, has_letters, is_key, key_place_from}
use Rattle.name_parts.specs.Escapes.{escaped, escaped_fault, spelling}
use Rattle.name_parts.specs.Pieces.{AreParts, begins_with_slash, name_fault, name_text}

-- The bad place of a text is the first that breaks the grammar of the alphabet.
abbrev pub LettersBreakFirst : Type 0
LettersBreakFirst =
    (alphabet : Alphabet) (text : List ℕ) (place : ℕ) → alphabet_place alphabet text ≡ Some place
    → IsFirstBadPlace (λ t. has_alphabet alphabet t ≡ true) text place

-- The bad place of a text is the first that breaks the grammar of keys.
abbrev pub KeysBreakFirst : Type 0
KeysBreakFirst =
    (text : List ℕ) (place : ℕ) → key_place_from true text ≡ Some place
    → IsFirstBadPlace (λ t. is_key t ≡ true) text place

-- the one spelling of bytes of the form, of any number
abbrev pub IsEscaped : PartForm → List ℕ → Type 0
IsEscaped form text = (value : List ℕ) × (text ≡ escaped value) × (has_letters form value ≡ true)

-- no byte's one spelling stands at the front
abbrev pub BeginsNoSpelling : List ℕ → Type 0
BeginsNoSpelling text = (b : ℕ) (rest : List ℕ) → b < 256 → text ≢ spelling b ++ rest

-- The first place that breaks the grammar of escaped parts. Some escaped part begins as this text
-- does up to there, with the one spelling of so many bytes. Behind them the first bad byte of the
-- value stands, or no byte's one spelling does.
pub record IsFirstBadSpelling (form : PartForm) (text : List ℕ) (place : ℕ) : Type 0 where
  pub within : place ≤ length text
  pub before : GoesOn (IsEscaped form) (take place text)
  pub len : ℕ
  pub spells : take place text ≡ escaped (take len (percent_decode text))
  pub here : (bad_place form (percent_decode text) ≡ Some len) ⊎ BeginsNoSpelling (drop place text)
  pub itself : ¬ IsEscaped form text

-- The place of an escaped part's fault is the first that breaks the grammar.
abbrev pub EscapesBreakFirst : Type 0
EscapesBreakFirst =
    (form : PartForm) (text : List ℕ) (place : ℕ)
    → (escaped_fault form text ≡ Some (BadByte place))
    ⊎ (escaped_fault form text ≡ Some (NotCanonical place))
    → IsFirstBadSpelling form text place

-- A name has no fault, and so is read.
abbrev pub NameHasNoFault : Type 0
NameHasNoFault =
    (p : Piece) (ps : List Piece) (parts : List (List ℕ)) → list_all begins_with_slash ps ≡ true
    → AreParts (p ∷ ps) parts → name_fault (p ∷ ps) (name_text (p ∷ ps) parts) ≡ None

-- Two lists of parts never spell one name.
abbrev pub OneListOfParts : Type 0
OneListOfParts =
    (p : Piece) (ps : List Piece) (parts others : List (List ℕ))
    → list_all begins_with_slash ps ≡ true → AreParts (p ∷ ps) parts → AreParts (p ∷ ps) others
    → name_text (p ∷ ps) parts ≡ name_text (p ∷ ps) others → parts ≡ others
