-- The tokens of pages.
use Rattle.std.specs.Prelude.{◌≡◌, ◌<◌, ◌^◌, ℕ, List}
use Rattle.base64.specs.Engines.{standard}
use Rattle.base64.specs.GeneralPurpose.{encode_of}
use Rattle.page_tokens.specs.declared.keys.KeyPart.{KeyPart}
use Rattle.page_tokens.specs.declared.kinds.ResultCursor.{ResultCursor}
use Rattle.page_tokens.specs.declared.kinds.VerdictCursor.{VerdictCursor}
use Rattle.page_tokens.specs.Cursors.{result_contents, result_parts, verdict_contents, verdict_parts}
use Rattle.page_tokens.specs.Keys.{key_bytes}
use Rattle.page_tokens.specs.Tokens.{IsToken, token_bytes}
use Rattle.verdict_pages.specs.Keys.{ResultPlace, VerdictPlace}

-- the place that a cursor holds, and the cursor of a place
abbrev pub verdict_held : VerdictCursor → VerdictPlace
verdict_held cursor = record {
  status = cursor.status;
  test = cursor.test;
  label = cursor.label;
  ordinal = cursor.ordinal;
}

abbrev pub verdict_cursor : VerdictPlace → VerdictCursor
verdict_cursor place = record {
  status = place.status;
  test = place.test;
  label = place.label;
  ordinal = place.ordinal;
}

abbrev pub result_held : ResultCursor → ResultPlace
result_held cursor = record {
  invocation = cursor.invocation;
  test = cursor.test;
  result = cursor.result;
}

abbrev pub result_cursor : ResultPlace → ResultCursor
result_cursor place = record {
  invocation = place.invocation;
  test = place.test;
  result = place.result;
}

-- The text of the token of a query, of this kind, whose key has these contents.
abbrev pub token_text : List ℕ → ℕ → List KeyPart → List (List ℕ) → List ℕ
token_text query kind parts contents =
    encode_of standard (token_bytes query kind (key_bytes parts contents))

-- The text of the token of a place among verdicts, and among results.
abbrev pub verdict_token : List ℕ → VerdictPlace → List ℕ
verdict_token query place =
    token_text query 1 verdict_parts (verdict_contents (verdict_cursor place))

abbrev pub result_token : List ℕ → ResultPlace → List ℕ
result_token query place = token_text query 2 result_parts (result_contents (result_cursor place))

-- The text is a token of the query, which is read as this place and as no other. A Rust ordinal is
-- below 2^32.
pub record IsReadAs (query : List ℕ) (place : VerdictPlace) (text : List ℕ) : Type 0 where
  pub read : IsToken query 1 verdict_parts (verdict_contents (verdict_cursor place)) text
  pub alone : (cursor : VerdictCursor) → cursor.ordinal < 2 ^ 32
      → IsToken query 1 verdict_parts (verdict_contents cursor) text → verdict_held cursor ≡ place

pub record IsResultReadAs (query : List ℕ) (place : ResultPlace) (text : List ℕ) : Type 0 where
  pub read : IsToken query 2 result_parts (result_contents (result_cursor place)) text
  pub alone : (cursor : ResultCursor)
      → IsToken query 2 result_parts (result_contents cursor) text → result_held cursor ≡ place
