-- Page tokens in requests. Each is judged beside the names in its request: it is one of the query
-- for these by the request's method.
use Rattle.std.specs.Prelude.{ℕ, ◌<◌, ◌^◌, List, Option, Some, None, ⊤}
use Rattle.serde_json.specs.Data.{Data, null, boolean, number, string, array, object}
use Rattle.base64.specs.Engines.{standard}
use Rattle.base64.specs.GeneralPurpose.{encode_of}
use Rattle.json_fields.specs.Faults.{here}
use Rattle.json_fields.specs.Fields.{filled_at, HoldsMaybe}
use Rattle.json_fields.specs.Kinds.{empty_list, empty_text}
use Rattle.json_fields.specs.Texts.{bad_value, IsText}
use Rattle.json_fields.specs.declared.faults.FieldFault.{FieldFault}
use Rattle.json_fields.specs.declared.faults.FaultKind.TheVariants.{WrongKind}
use Rattle.json_fields.specs.declared.whys.Why.{Why}
use Rattle.json_fields.specs.declared.whys.Why.TheVariants as why
use Rattle.field_kinds.specs.Filled.{optional_filled}
use Rattle.page_tokens.specs.declared.faults.TokenFault.{TokenFault}
use Rattle.page_tokens.specs.declared.faults.TokenFault.TheVariants.{NotBase64, BadForm, OtherQuery, Memory}
use Rattle.page_tokens.specs.declared.keys.KeyPart.{KeyPart}
use Rattle.page_tokens.specs.declared.kinds.ResultCursor.{ResultCursor}
use Rattle.page_tokens.specs.declared.kinds.VerdictCursor.{VerdictCursor}
use Rattle.page_tokens.specs.Cursors.{result_parts, result_contents, verdict_parts, verdict_contents}
use Rattle.page_tokens.specs.Keys.{AreContents, key_bytes}
use Rattle.page_tokens.specs.Tokens.{IsToken, query_hash, token_bytes, token_fault}
use Rattle.query_forms.specs.Names as name
use Rattle.query_forms.specs.Lists.{names_at}

-- A kind of cursors: its number, the parts of its key, what they hold, and which cursors have
-- numbers that are within their bounds.
pub record CursorForm (C : Type 0) : Type 1 where
  pub number : ℕ
  pub parts : List KeyPart
  pub held : C → List (List ℕ)
  pub fits : C → Type 0

abbrev pub cursors : {C : Type 0} → ℕ → List KeyPart → (C → List (List ℕ)) → (C → Type 0)
    → CursorForm C
cursors kind parts held fits =
    record { number = kind; parts = parts; held = held; fits = fits }

abbrev pub result_cursors : CursorForm ResultCursor
result_cursors = cursors 2 result_parts result_contents (λ c. ⊤)

abbrev pub verdict_cursors : CursorForm VerdictCursor
verdict_cursors = cursors 1 verdict_parts verdict_contents (λ c. c.ordinal < 2 ^ 32)

-- why a text is refused as a token; want of memory is no fault of the text
abbrev pub why_of_token : TokenFault → Option Why
why_of_token NotBase64 = Some why.NotBase64
why_of_token (BadForm at) = Some (why.BadForm at)
why_of_token OtherQuery = Some why.OtherQuery
why_of_token Memory = None

abbrev pub token_refused : Option TokenFault → Option FieldFault
token_refused None = None
token_refused (Some f) = bad_value (why_of_token f)

-- a text that is a token of the query, of this kind of cursors
abbrev pub a_token : {C : Type 0} → CursorForm C → List ℕ → Data → Option FieldFault
a_token f query null = Some (here WrongKind)
a_token f query (boolean b) = Some (here WrongKind)
a_token f query (number n) = Some (here WrongKind)
a_token f query (string s) = token_refused (token_fault query f.number f.parts s)
a_token f query (array ds) = Some (here WrongKind)
a_token f query (object ms) = Some (here WrongKind)

-- the cursor that a text is the token of
pub record IsTokenOf {C : Type 0} (f : CursorForm C) (query text : List ℕ) (c : C) : Type 0 where
  pub is_token : IsToken query f.number f.parts (f.held c) text
  pub fits : f.fits c

abbrev pub IsCursor : {C : Type 0} → CursorForm C → List ℕ → Data → C → Type 0
IsCursor f query d c = IsText (IsTokenOf f query) d c

-- what a request asks by a method: the hash over its name and the names in the request, as they are
-- written there
abbrev pub query_in : List ℕ → Data → List ℕ
query_in method d = query_hash method (names_at (filled_at name.invocations empty_list d))

-- a page token, of the query that its request asks; an empty one is unset
abbrev pub a_page_token : {C : Type 0} → CursorForm C → List ℕ → Data → Option FieldFault
a_page_token f method d =
    optional_filled name.page_token empty_text (a_token f (query_in method d)) d

abbrev pub IsPageToken : {C : Type 0} → CursorForm C → List ℕ → Data → Option C → Type 0
IsPageToken f method d o =
    HoldsMaybe (IsCursor f (query_in method d)) (filled_at name.page_token empty_text d) o

-- the token of a cursor
abbrev pub token_text : {C : Type 0} → CursorForm C → List ℕ → C → List ℕ
token_text f query c =
    encode_of standard (token_bytes query f.number (key_bytes f.parts (f.held c)))

-- each part of the cursor's key holds what it may
pub record IsCursorOfForm {C : Type 0} (f : CursorForm C) (c : C) : Type 0 where
  pub are : AreContents f.parts (f.held c)
  pub fits : f.fits c
