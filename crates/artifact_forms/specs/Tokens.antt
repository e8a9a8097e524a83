-- Page tokens of a list of artifacts, which hold for the parent that the request writes.
use Rattle.std.specs.Prelude.{ℕ, List, [], ◌∷◌, codes, Option, Some, None}
use Rattle.base64.specs.Engines.{standard}
use Rattle.base64.specs.GeneralPurpose.{encode_of}
use Rattle.serde_json.specs.Data.{Data}
use Rattle.json_fields.specs.Texts.{IsText}
use Rattle.json_fields.specs.declared.faults.FieldFault.{FieldFault}
use Rattle.json_fields.specs.declared.whys.Why.{Why}
use Rattle.json_fields.specs.declared.whys.Why.TheVariants as why
use Rattle.field_kinds.specs.TextKinds.Texts.{a_string}
use Rattle.page_tokens.specs.declared.faults.TokenFault.{TokenFault}
use Rattle.page_tokens.specs.declared.faults.TokenFault.TheVariants.{NotBase64, BadForm, OtherQuery, Memory}
use Rattle.page_tokens.specs.declared.kinds.ArtifactCursor.{ArtifactCursor}
use Rattle.page_tokens.specs.Cursors.{artifact_parts, artifact_contents}
use Rattle.page_tokens.specs.Keys.{key_bytes}
use Rattle.page_tokens.specs.Tokens.{IsToken, query_hash, token_bytes, token_fault}

-- what is asked: the artifacts of a parent, by its name
abbrev pub list_query : List ℕ → List ℕ
list_query parent = query_hash (codes "ListArtifacts") (parent ∷ [])

-- why a text is refused that is no token; want of memory is no fault of the text
abbrev pub told_of : TokenFault → Option Why
told_of NotBase64 = Some why.NotBase64
told_of (BadForm at) = Some (why.BadForm at)
told_of OtherQuery = Some why.OtherQuery
told_of Memory = None

abbrev pub told : Option TokenFault → Option Why
told None = None
told (Some f) = told_of f

abbrev pub token_why : List ℕ → List ℕ → Option Why
token_why query text = told (token_fault query 3 artifact_parts text)

-- a token of this query
abbrev pub a_token : List ℕ → Data → Option FieldFault
a_token query = a_string (token_why query)

-- the place that the token tells
abbrev pub Tells : List ℕ → List ℕ → ArtifactCursor → Type 0
Tells query text c = IsToken query 3 artifact_parts (artifact_contents c) text

abbrev pub IsTokenOf : List ℕ → Data → ArtifactCursor → Type 0
IsTokenOf query = IsText (Tells query)

-- the one text of a place
abbrev pub token_text : List ℕ → ArtifactCursor → List ℕ
token_text query c =
    encode_of standard (token_bytes query 3 (key_bytes artifact_parts (artifact_contents c)))
