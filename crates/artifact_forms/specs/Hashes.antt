-- SHA-256 hashes, and their texts.
use Rattle.std.specs.Prelude.{◌≡◌, ℕ, List, ◌++◌, length, codes}
use Rattle.hex.specs.Hex.{encode_lower, IsBytes}

-- 32 bytes
pub record IsDigest (hash : List ℕ) : Type 0 where
  pub count : length hash ≡ 32
  pub bytes : IsBytes hash

-- `sha256:`, and two lower-case hexadecimal digits of each byte
abbrev pub hash_text : List ℕ → List ℕ
hash_text hash = codes "sha256:" ++ encode_lower hash

-- The text is that of these 32 bytes.
abbrev pub SpellsHash : List ℕ → List ℕ → Type 0
SpellsHash text hash = (text ≡ hash_text hash) × IsDigest hash
