-- The grammar of ids, and what is wrong with a text that is none.
use Rattle.std.specs.Prelude.{◌≡◌, ℕ, List, ◌++◌, codes, Option}
use Rattle.name_parts.specs.declared.faults.NameFault.{NameFault}
use Rattle.name_parts.specs.declared.alphabets.Alphabet.TheVariants as alphabet
use Rattle.name_parts.specs.declared.parts.PartForm.TheVariants.{Letters, TestId}
use Rattle.name_parts.specs.Parts.{IsPart, part_fault}
use Rattle.name_parts.specs.Sequences.{behind, unless_empty}

-- a lower-case letter, then up to 99 lower-case letters, digits and `_ - : .`
abbrev pub IsInvocationId : List ℕ → Type 0
IsInvocationId text = IsPart (Letters alphabet.Invocation) text

abbrev pub invocation_id_fault : List ℕ → Option NameFault
invocation_id_fault text = part_fault (Letters alphabet.Invocation) text

-- 1 to 512 bytes of UTF-8 without control characters
abbrev pub IsTestId : List ℕ → Type 0
IsTestId text = IsPart TestId text

abbrev pub test_id_fault : List ℕ → Option NameFault
test_id_fault text = part_fault TestId text

-- 1 to 32 lower-case letters, digits and `- _ .`
abbrev pub IsResultId : List ℕ → Type 0
IsResultId text = IsPart (Letters alphabet.Outcome) text

abbrev pub result_id_fault : List ℕ → Option NameFault
result_id_fault text = part_fault (Letters alphabet.Outcome) text

-- 1 to 256 letters, digits and `- _ . /`, the first not `/`
abbrev pub IsArtifactId : List ℕ → Type 0
IsArtifactId text = IsPart (Letters alphabet.Artifact) text

abbrev pub artifact_id_fault : List ℕ → Option NameFault
artifact_id_fault text = part_fault (Letters alphabet.Artifact) text

-- `invocations/` and the id
abbrev pub invocation_name : List ℕ → List ℕ
invocation_name id = codes "invocations/" ++ id

abbrev pub IsInvocationName : List ℕ → List ℕ → Type 0
IsInvocationName id text = (text ≡ invocation_name id) × IsInvocationId id

abbrev pub invocation_name_fault : List ℕ → Option NameFault
invocation_name_fault text = unless_empty (behind (codes "invocations/") invocation_id_fault) text
