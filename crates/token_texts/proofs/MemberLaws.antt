-- The tokens of texts and of tags.
use Rattle.std.proofs.Common.{◌≡◌, ◌==◌, ℕ, Bool, true, false, List, [], ◌∷◌, ◌++◌, length, codes, arith, Some, refl}
use Rattle.std.specs.Str.{IsUtf8, is_utf8}
use Rattle.std.proofs.lemmas.Str.{IsUtf8-from_is_utf8, is_utf8-from_IsUtf8}
use Rattle.json.specs.Token.{Token, key, begin_object, end_object}
use Rattle.json.specs.Token as token
use Rattle.serde_json.specs.Data.{string}
use Rattle.pair_kinds.specs.NamesRealms.declared.pairs.Pair.{Pair}
use Rattle.pair_kinds.specs.Tags.{tag_data}
use Rattle.token_texts.specs.Shown.{as_text, filled, pair_data}
use Rattle.token_texts.specs.Tokens.{tokens_of, member_tokens}

decided : (bytes : List ℕ) (b : Bool) → is_utf8 bytes ≡ b → (IsUtf8 bytes → ⊥) → b ≡ false
decided bytes true e ill = absurd (ill (IsUtf8-from_is_utf8 bytes e))
decided bytes false e ill = refl

pub not_utf8 : (bytes : List ℕ) → (IsUtf8 bytes → ⊥) → is_utf8 bytes ≡ false
not_utf8 bytes ill = decided bytes (is_utf8 bytes) refl ill

-- bytes as a text
pub as_text-utf8 : (bytes : List ℕ) → IsUtf8 bytes → as_text bytes ≡ bytes
as_text-utf8 bytes is = rw (is_utf8-from_IsUtf8 bytes is) refl

pub as_text-other : (bytes : List ℕ) → (IsUtf8 bytes → ⊥) → as_text bytes ≡ []
as_text-other bytes ill = rw (not_utf8 bytes ill) refl

pub filled_some : (text : List ℕ) → (length text == 0) ≡ false → filled text ≡ Some (string text)
filled_some [] e = absurd cc
filled_some (b ∷ bs) e = refl

-- a tag
tag_of : (k v : List ℕ) → begin_object ∷ key (codes "key") ∷ token.string k ∷ (member_tokens (codes "value") (filled v) ++ end_object ∷ [])
    ≡ tokens_of (tag_data (record { key = k; value = v }))
tag_of k [] = refl
tag_of k (b ∷ bs) = let some : (length (b ∷ bs) == 0) ≡ false = grind arith in rw some refl

pub tag_tokens : (tag : Pair) (k v : List ℕ) → k ≡ as_text tag.key → v ≡ as_text tag.value
    → begin_object ∷ key (codes "key") ∷ token.string k ∷ (member_tokens (codes "value") (filled v) ++ end_object ∷ []) ≡ tokens_of (pair_data tag)
tag_tokens tag k v is are = rw (is, are) (tag_of (as_text tag.key) (as_text tag.value))
