-- Laws of tokens: which texts have no fault, that each cursor has one text, and where a key breaks.
use Rattle.std.specs.Prelude.{◌≡◌, ◌≢◌, ◌↔◌, ℕ, ◌^◌, ◌<◌, List, length, Some, None}
use Rattle.base64.specs.Engines.{standard}
use Rattle.base64.specs.GeneralPurpose.{encode_of, IsBytes}
use Rattle.page_tokens.specs.declared.keys.KeyPart.{KeyPart}
use Rattle.page_tokens.specs.declared.faults.TokenFault.TheVariants.{NotBase64}
use Rattle.page_tokens.specs.declared.kinds.VerdictCursor.{VerdictCursor}
use Rattle.page_tokens.specs.declared.kinds.ResultCursor.{ResultCursor}
use Rattle.page_tokens.specs.declared.kinds.ArtifactCursor.{ArtifactCursor}
use Rattle.page_tokens.specs.Keys.{BreaksAt, key_place}
use Rattle.page_tokens.specs.Tokens.{IsToken, token_fault}
use Rattle.page_tokens.specs.Cursors.{verdict_contents, result_contents, artifact_contents}

-- A token has no fault, and so is read.
abbrev pub TokensHaveNoFault : Type 0
TokensHaveNoFault =
    (query : List ℕ) (kind : ℕ) (parts : List KeyPart) (contents : List (List ℕ)) (text : List ℕ)
    → length query ≡ 32 → IsToken query kind parts contents text
    → token_fault query kind parts text ≡ None

-- The text of bytes is a token where it has no fault.
abbrev pub OnlyTokensAreRead : Type 0
OnlyTokensAreRead =
    (query : List ℕ) (kind : ℕ) (parts : List KeyPart) (bytes : List ℕ)
    → length query ≡ 32 → IsBytes bytes
    → token_fault query kind parts (encode_of standard bytes) ≡ None
    → (contents : List (List ℕ)) × IsToken query kind parts contents (encode_of standard bytes)

-- A text that is no base64 is the text of no bytes.
abbrev pub OnlyBase64IsRead : Type 0
OnlyBase64IsRead =
    (query : List ℕ) (kind : ℕ) (parts : List KeyPart) (text bytes : List ℕ)
    → token_fault query kind parts text ≡ Some NotBase64 → IsBytes bytes
    → text ≢ encode_of standard bytes

-- The place where bytes break a key is the one in front of which some first parts stand whole, and
-- at which it breaks behind them.
abbrev pub KeysBreakThere : Type 0
KeysBreakThere =
    (parts : List KeyPart) (bytes : List ℕ) (at : ℕ) → IsBytes bytes
    → (key_place parts bytes ≡ Some at) ↔ BreaksAt parts bytes at

-- What the parts of a key hold has one text.
abbrev pub OneTextWritten : Type 0
OneTextWritten =
    (query : List ℕ) (kind : ℕ) (parts : List KeyPart) (contents : List (List ℕ))
    (text other : List ℕ) → IsToken query kind parts contents text
    → IsToken query kind parts contents other → text ≡ other

-- One text has one query, and the key in it one content for each part.
abbrev pub OneKeyTold : Type 0
OneKeyTold =
    (query other : List ℕ) (kind : ℕ) (parts : List KeyPart) (contents others : List (List ℕ))
    (text : List ℕ) → length query ≡ length other → IsToken query kind parts contents text
    → IsToken other kind parts others text → (query ≡ other) × (contents ≡ others)

-- Two cursors of a kind whose parts hold the same are one. A Rust ordinal is below 2^32.
abbrev pub OneVerdictHeld : Type 0
OneVerdictHeld =
    (c d : VerdictCursor) → c.ordinal < 2 ^ 32 → d.ordinal < 2 ^ 32
    → verdict_contents c ≡ verdict_contents d → c ≡ d

abbrev pub OneResultHeld : Type 0
OneResultHeld = (c d : ResultCursor) → result_contents c ≡ result_contents d → c ≡ d

abbrev pub OneArtifactHeld : Type 0
OneArtifactHeld = (c d : ArtifactCursor) → artifact_contents c ≡ artifact_contents d → c ≡ d
