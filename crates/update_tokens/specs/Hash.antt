-- Message authentication codes, as RFC 2104 has them over SHA-256, and update tokens.
use Rattle.std.specs.Prelude.{ℕ, ◌-◌, List, ◌++◌, length, map, replicate, bit_xor, codes, nat_lt, if◌then◌else◌}
use Rattle.sha2.specs.Sha256.{sha256}
use Rattle.hex.specs.Hex.{encode_lower}

-- the bytes of a key that fits a block of 64 bytes, and zeros up to the block's end
unfoldable pub filled_block : List ℕ → List ℕ
filled_block key = key ++ replicate (64 - length key) 0

-- the block of a key: a key of more than a block is hashed first
abbrev pub key_block : List ℕ → List ℕ
key_block key = filled_block (if nat_lt 64 (length key) then sha256 key else key)

-- a pad laid over each byte
abbrev pub padded_with : ℕ → List ℕ → List ℕ
padded_with pad block = map (λ b. bit_xor b pad) block

-- RFC 2104: H(K XOR opad, H(K XOR ipad, text)), with ipad the byte 0x36 and opad the byte 0x5c
unfoldable pub hmac : List ℕ → List ℕ → List ℕ
hmac key message =
    sha256 (padded_with 0x5c (key_block key)
    ++ sha256 (padded_with 0x36 (key_block key) ++ message))

-- the update token of an invocation: the lower-case hex of the code over `rdb-update/` and its id
abbrev pub token_text : List ℕ → List ℕ → List ℕ
token_text secret id = encode_lower (hmac secret (codes "rdb-update/" ++ id))
