-- What is told of an error or a failure.
use Rattle.std.specs.Prelude.{ℕ, zero, suc, ◌&&◌, nat_lt, nat_le, if◌then◌else◌, Bool, List, [], ◌∷◌, length, take, slice_index}
use Rattle.junit_parts.specs.Bytes.{behind_white, is_white}

-- how many bytes there are up to the last that isn't white space
unfoldable pub solid_len : List ℕ → ℕ
solid_len [] = 0
solid_len (b ∷ bs) =
    if nat_lt 0 (solid_len bs) then suc (solid_len bs) else (if is_white b then 0 else 1)

-- without the white space in front and at the end
abbrev pub trimmed : List ℕ → List ℕ
trimmed text = take (solid_len (behind_white text)) (behind_white text)

-- a byte of a character that isn't its first (RFC 3629)
abbrev pub is_inner : ℕ → Bool
is_inner b = nat_le 128 b && nat_lt b 192

-- the last place up to this one where a character begins
unfoldable pub boundary : ℕ → List ℕ → ℕ
boundary zero bytes = 0
boundary (suc n) bytes = if is_inner (slice_index bytes (suc n)) then boundary n bytes else suc n

-- the longest front of at most 1,024 bytes that ends where a character does
abbrev pub cut : List ℕ → List ℕ
cut bytes = if nat_le (length bytes) 1024 then bytes else take (boundary 1024 bytes) bytes
