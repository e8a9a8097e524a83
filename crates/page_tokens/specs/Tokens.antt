-- Tokens: their bytes and their one text, and what is wrong with a text that is none.
use Rattle.std.specs.Prelude.{◌≡◌, ℕ, ◌+◌, ◌==◌, nat_eq, if◌then◌else◌, List, [], ◌∷◌, ◌++◌, drop, Option, Some, None, option_map}
use Rattle.std.specs.List.{flat_map, starts_with}
use Rattle.std.specs.Option.{option_or}
use Rattle.sha2.specs.Sha256.{sha256}
use Rattle.base64.specs.Engines.{standard}
use Rattle.base64.specs.GeneralPurpose.{encode_of, decoded_of, IsBytes}
use Rattle.page_tokens.specs.declared.keys.KeyPart.{KeyPart}
use Rattle.page_tokens.specs.declared.faults.TokenFault.{TokenFault}
use Rattle.page_tokens.specs.declared.faults.TokenFault.TheVariants.{NotBase64, BadForm, OtherQuery}
use Rattle.page_tokens.specs.Keys.{AreContents, key_bytes, key_place, end_place}

-- a name and a newline
abbrev pub line : List ℕ → List ℕ
line name = name ++ 10 ∷ []

-- what is asked: SHA-256 over a method's name and the names of its request, each with a newline
unfoldable pub query_hash : List ℕ → List (List ℕ) → List ℕ
query_hash method names = sha256 (flat_map line (method ∷ names))

-- one byte 1, the query, one byte for the kind, and the key
abbrev pub token_bytes : List ℕ → ℕ → List ℕ → List ℕ
token_bytes query kind key = 1 ∷ query ++ kind ∷ key

-- The text is that of a cursor of this query and kind, whose key has these contents: the standard
-- base64 (RFC 4648, section 4) of its bytes, with padding.
pub record IsToken (query : List ℕ) (kind : ℕ) (parts : List KeyPart) (contents : List (List ℕ))
    (text : List ℕ) : Type 0 where
  pub spelling : text ≡ encode_of standard (token_bytes query kind (key_bytes parts contents))
  pub are : AreContents parts contents
  pub bytes : IsBytes (token_bytes query kind (key_bytes parts contents))

-- where bytes break the front of each token: at a first byte other than 1, or at their end where
-- they don't reach behind the query
abbrev pub front_place : List ℕ → Option ℕ
front_place [] = Some 0
front_place (b ∷ bytes) = if b == 1 then end_place 33 (b ∷ bytes) else Some 0

-- the fault of bytes behind whose first one another query stands
abbrev pub query_fault : List ℕ → List ℕ → Option TokenFault
query_fault query bytes = if starts_with nat_eq (drop 1 bytes) query then None else Some OtherQuery

-- where bytes break what stands behind the query: the kind, and the key
abbrev pub rest_place : ℕ → List KeyPart → List ℕ → Option ℕ
rest_place kind parts [] = Some 0
rest_place kind parts (b ∷ key) =
    if b == kind then option_map (λ n. 1 + n) (key_place parts key) else Some 0

-- what is wrong with bytes: the front, then the query, then the rest
unfoldable pub bytes_fault : List ℕ → ℕ → List KeyPart → List ℕ → Option TokenFault
bytes_fault query kind parts bytes =
    option_or (option_map BadForm (front_place bytes))
    (option_or (query_fault query bytes)
    (option_map (λ n. BadForm (33 + n)) (rest_place kind parts (drop 33 bytes))))

-- what is wrong with what a text decodes to, if it does
abbrev pub decoded_fault : List ℕ → ℕ → List KeyPart → Option (List ℕ) → Option TokenFault
decoded_fault query kind parts None = Some NotBase64
decoded_fault query kind parts (Some bytes) = bytes_fault query kind parts bytes

-- what is wrong with a text as a token of this query and kind
abbrev pub token_fault : List ℕ → ℕ → List KeyPart → List ℕ → Option TokenFault
token_fault query kind parts text = decoded_fault query kind parts (decoded_of standard text)
