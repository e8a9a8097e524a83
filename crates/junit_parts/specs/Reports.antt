-- Which cases a report has, or which fault.
use Rattle.std.specs.Prelude.{◌≡◌, ◌≤◌, ◌<◌, ℕ, ◌-◌, ◌||◌, ◌==◌, ◌&&◌, min, nat_eq, if◌then◌else◌, Bool, true, false, List, [], ◌∷◌, drop, length, Option, Some, None, ◌⊎◌, codes}
use Rattle.std.specs.List.{starts_with}
use Rattle.std.specs.Str.Lossy.{utf8_valid_len}
use Rattle.names_realms.specs.declared.states.Case.{Case}
use Rattle.junit_parts.specs.Bytes.{◌>>=◌, is_white, parted_at}
use Rattle.junit_parts.specs.Cases.{cases_in}
use Rattle.junit_parts.specs.Constructs.{Token, token_from}
use Rattle.junit_parts.specs.Flaws.{IsSound, flaw_at, token_flaw}
use Rattle.junit_parts.specs.Tags.{TagText}
use Rattle.junit_parts.specs.Tree.{Content, Unfinished, Outside, Within, IsAt, Prints, PrintsFront, has_element}
use Rattle.junit_parts.specs.declared.faults.Cause.TheVariants as cause
use Rattle.junit_parts.specs.declared.faults.Flaw.{Flaw}
use Rattle.junit_parts.specs.declared.faults.Stop.{Stop}
use Rattle.junit_parts.specs.declared.faults.Stop.TheVariants as stop
use Rattle.junit_parts.specs.declared.faults.JunitFault.{JunitFault}
use Rattle.junit_parts.specs.declared.faults.JunitFault.TheVariants as fault
use Rattle.junit_parts.specs.declared.roles.Role.TheVariants.{Top}

-- A document is a print of content outside every element, with nothing wrong in it and a root; its
-- cases are those of the tree.
pub record IsDocument (document : List ℕ) (cases : List Case) : Type 0 where
  pub tree : Content
  pub printed : Prints document tree []
  pub sound : IsSound (Outside tree)
  pub root : has_element tree ≡ true
  pub same : cases ≡ cases_in Top tree

-- The first flaw of what is no document, behind an unfinished tree with nothing wrong in it: a
-- construct that is wrong there; a place where no construct stands; an end within an open element;
-- an end without a root.
pub data HasFlaw (document : List ℕ) (flaw : Flaw) : Type 0 where
  wrong : (front : Unfinished) (middle rest : List ℕ) (token : Token)
      → PrintsFront document front middle → IsSound front
      → IsAt middle (length middle) token rest
      → token_flaw front (length middle) token ≡ Some flaw → HasFlaw document flaw
  broken : (front : Unfinished) (middle : List ℕ)
      → PrintsFront document front middle → IsSound front
      → 0 < length middle → token_from middle ≡ None
      → flaw ≡ flaw_at (length middle) cause.NotWellFormed → HasFlaw document flaw
  open_end : (outer : Unfinished) (left : ℕ) (tag : TagText) (content : Content)
      → PrintsFront document (Within outer left tag content) []
      → IsSound (Within outer left tag content)
      → flaw ≡ flaw_at 0 cause.NotWellFormed → HasFlaw document flaw
  no_root : (tree : Content)
      → Prints document tree [] → IsSound (Outside tree) → has_element tree ≡ false
      → flaw ≡ flaw_at 0 cause.NoRoot → HasFlaw document flaw

-- why reading a document stopped
abbrev pub IsFlawed : List ℕ → Stop → Type 0
IsFlawed document stop.Memory = Unit {0}
IsFlawed document (stop.Flawed flaw) = HasFlaw document flaw

-- behind a byte order mark
abbrev pub behind_mark : List ℕ → List ℕ
behind_mark bytes = if starts_with nat_eq bytes (239 ∷ 187 ∷ 191 ∷ []) then drop 3 bytes else bytes

-- behind the declaration that may stand at the very start: `<?xml`, white space or `?`, and all up
-- to the first `?>` (2.8 XMLDecl)
abbrev pub ends_target : List ℕ → Bool
ends_target [] = false
ends_target (b ∷ bs) = is_white b || b == 63

abbrev pub declaration_from : List ℕ → Option (List ℕ)
declaration_from bytes =
    if starts_with nat_eq bytes (codes "<?xml") && ends_target (drop 5 bytes)
    then (parted_at (codes "?>") (drop 5 bytes) >>= λ parts. Some parts.1)
    else None

abbrev pub rest_or : List ℕ → Option (List ℕ) → List ℕ
rest_or bytes None = bytes
rest_or bytes (Some rest) = rest

abbrev pub document_of : List ℕ → List ℕ
document_of bytes = rest_or (behind_mark bytes) (declaration_from (behind_mark bytes))

-- the first byte that is no UTF-8, or the byte behind 64 MiB; the length where there is neither
abbrev pub text_place : List ℕ → ℕ
text_place bytes = min (utf8_valid_len bytes) 67_108_864

-- a flaw as it is told, in a report of so many bytes
abbrev pub told : ℕ → Flaw → JunitFault
told len flaw = elim flaw.cause [
  | cause.NotWellFormed ↦ fault.NotWellFormed (len - flaw.left)
  | cause.Unsupported what ↦ fault.Unsupported (len - flaw.left) what
  | cause.NoRoot ↦ fault.NoRoot
  | cause.MissingName ↦ fault.MissingName (len - flaw.left)
  | cause.BadTime ↦ fault.BadTime (len - flaw.left)
  | cause.TooDeep ↦ fault.TooDeep (len - flaw.left)
]

-- the report is UTF-8 of at most 64 MiB, and a document
pub record HasCases (bytes : List ℕ) (cases : List Case) : Type 0 where
  pub text : length bytes ≤ text_place bytes
  pub document : IsDocument (document_of bytes) cases

-- Its fault: past 64 MiB that the text ends, whatever else is wrong; else a flaw before the place
-- where the text ends, or that the text ends there.
pub data HasFault (bytes : List ℕ) (answer : JunitFault) : Type 0 where
  too_long : 67_108_864 < length bytes
      → answer ≡ fault.NotText (text_place bytes) → HasFault bytes answer
  flawed : length bytes ≤ 67_108_864 → (flaw : Flaw) → HasFlaw (document_of bytes) flaw
      → (length bytes ≤ text_place bytes) ⊎ (length bytes - flaw.left < text_place bytes)
      → answer ≡ told (length bytes) flaw → HasFault bytes answer
  no_text : text_place bytes < length bytes
      → (cases : List Case) → IsDocument (document_of bytes) cases
      → answer ≡ fault.NotText (text_place bytes) → HasFault bytes answer
  text_ends : text_place bytes < length bytes
      → (flaw : Flaw) → HasFlaw (document_of bytes) flaw
      → text_place bytes ≤ length bytes - flaw.left
      → answer ≡ fault.NotText (text_place bytes) → HasFault bytes answer
