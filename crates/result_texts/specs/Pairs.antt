-- The code's own words for the pairs of a variant.
use Rattle.std.specs.Prelude.{List, Bool, Some}
use Rattle.std.specs.List.{list_all}
use Rattle.std.specs.Str.{is_utf8}
use Rattle.json.specs.Token.{Token}
use Rattle.serde_json.specs.Data.{string}
use Rattle.json_fields.specs.NamesRealms.declared.pairs.Pair.{Pair}
use Rattle.result_forms.specs.Shown.{as_text}
use Rattle.token_texts.specs.Tokens.{member_tokens}

-- the tokens of a pair, as a member
abbrev pub pair_tokens : Pair → List Token
pair_tokens pair = member_tokens (as_text pair.key) (Some (string (as_text pair.value)))

-- each key is a text
abbrev pub have_text_keys : List Pair → Bool
have_text_keys pairs = list_all (λ pair. is_utf8 pair.key) pairs
