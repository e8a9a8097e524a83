-- Names of several parts: pieces one behind another, each a word and the part behind it.
use Rattle.std.specs.Prelude.{ℕ, Bool, true, false, if◌then◌else◌, ◌==◌, get_or, List, [], ◌∷◌, ◌++◌, codes, Option, None}
use Rattle.name_parts.specs.declared.alphabets.Alphabet.TheVariants as alphabet
use Rattle.name_parts.specs.declared.faults.NameFault.{NameFault}
use Rattle.name_parts.specs.declared.names.Piece.{Piece}
use Rattle.name_parts.specs.declared.names.Piece.TheVariants as piece
use Rattle.name_parts.specs.declared.parts.PartForm.{PartForm}
use Rattle.name_parts.specs.declared.parts.PartForm.TheVariants.{Letters, TestId}
use Rattle.name_parts.specs.Escapes.{escaped, escaped_fault}
use Rattle.name_parts.specs.Parts.{IsPart, part_fault}
use Rattle.name_parts.specs.Sequences.{behind, up_to_slash}

-- the table of the pieces: the word in front, the form of the part, and whether it is escaped
abbrev pub word_of : Piece → List ℕ
word_of piece.Invocation = codes "invocations/"
word_of piece.Test = codes "/tests/"
word_of piece.Result = codes "/results/"
word_of piece.Artifact = codes "/artifacts/"

abbrev pub form_of : Piece → PartForm
form_of piece.Invocation = Letters alphabet.Invocation
form_of piece.Test = TestId
form_of piece.Result = Letters alphabet.Outcome
form_of piece.Artifact = Letters alphabet.Artifact

abbrev pub is_escaped : Piece → Bool
is_escaped piece.Invocation = false
is_escaped piece.Test = true
is_escaped piece.Result = false
is_escaped piece.Artifact = true

-- such a piece may stand behind another
abbrev pub begins_with_slash : Piece → Bool
begins_with_slash p = get_or (word_of p) 0 0 == 47

-- a part as its name spells it
abbrev pub written : Piece → List ℕ → List ℕ
written p part = if is_escaped p then escaped part else part

abbrev pub piece_text : Piece → List ℕ → List ℕ
piece_text p part = word_of p ++ written p part

-- the one spelling of a name: each word with its part behind it
abbrev pub name_text : List Piece → List (List ℕ) → List ℕ
name_text [] parts = []
name_text (p ∷ ps) [] = []
name_text (p ∷ []) (part ∷ parts) = word_of p ++ written p part
name_text (p ∷ q ∷ ps) (part ∷ parts) =
    word_of p ++ (written p part ++ name_text (q ∷ ps) parts)

-- each part is one of its piece's form
abbrev pub AreParts : List Piece → List (List ℕ) → Type 0
AreParts [] [] = Unit {0}
AreParts [] (part ∷ parts) = ⊥
AreParts (p ∷ ps) [] = ⊥
AreParts (p ∷ ps) (part ∷ parts) = IsPart (form_of p) part × AreParts ps parts

-- the fault of a text as the part of a piece
abbrev pub piece_fault : Piece → List ℕ → Option NameFault
piece_fault p text =
    if is_escaped p then escaped_fault (form_of p) text else part_fault (form_of p) text

-- The first fault of a text as a name of these pieces. Each part ends at the next `/`, and the last
-- one is all that is left.
abbrev pub name_fault : List Piece → List ℕ → Option NameFault
name_fault [] text = None
name_fault (p ∷ []) text = behind (word_of p) (piece_fault p) text
name_fault (p ∷ q ∷ ps) text =
    behind (word_of p) (up_to_slash (piece_fault p) (name_fault (q ∷ ps))) text
