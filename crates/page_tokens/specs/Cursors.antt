-- The kinds of cursors: the number of each, the parts of its key, and what they hold.
use Rattle.std.specs.Prelude.{ℕ, List, [], ◌∷◌}
use Rattle.std.specs.Int.{w32, to_le_bytes}
use Rattle.name_parts.specs.declared.alphabets.Alphabet.TheVariants.{Invocation, Outcome, Artifact}
use Rattle.name_parts.specs.declared.parts.PartForm.TheVariants.{Letters, TestId}
use Rattle.page_tokens.specs.declared.keys.KeyPart.{KeyPart}
use Rattle.page_tokens.specs.declared.keys.KeyPart.TheVariants.{Plain, Text}
use Rattle.page_tokens.specs.declared.kinds.VerdictCursor.{VerdictCursor}
use Rattle.page_tokens.specs.declared.kinds.ResultCursor.{ResultCursor}
use Rattle.page_tokens.specs.declared.kinds.ArtifactCursor.{ArtifactCursor}

-- verdicts: a status, a test, the label of its variant, and the ordinal, its lowest byte first
abbrev pub verdict_parts : List KeyPart
verdict_parts = Plain 1 ∷ Text TestId ∷ Plain 16 ∷ Plain 4 ∷ []

abbrev pub verdict_contents : VerdictCursor → List (List ℕ)
verdict_contents c = (c.status ∷ []) ∷ c.test ∷ c.label ∷ to_le_bytes w32 c.ordinal ∷ []

-- results: the invocation that holds one, its test, and its own id
abbrev pub result_parts : List KeyPart
result_parts =
    Text (Letters Invocation) ∷ Text TestId ∷ Text (Letters Outcome) ∷ []

abbrev pub result_contents : ResultCursor → List (List ℕ)
result_contents c = c.invocation ∷ c.test ∷ c.result ∷ []

-- artifacts, by their ids alone
abbrev pub artifact_parts : List KeyPart
artifact_parts = Text (Letters Artifact) ∷ []

abbrev pub artifact_contents : ArtifactCursor → List (List ℕ)
artifact_contents c = c.artifact ∷ []
