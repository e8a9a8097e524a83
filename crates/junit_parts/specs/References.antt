-- References to characters (XML 1.0, 4.1 and 4.6).
use Rattle.std.specs.Prelude.{ℕ, ◌+◌, ◌-◌, ◌*◌, ◌&&◌, ◌||◌, nat_lt, nat_le, nat_eq, if◌then◌else◌, Bool, List, [], ◌∷◌, drop, Option, Some, None, codes}
use Rattle.std.specs.List.{list_all, starts_with}
use Rattle.std.specs.Char.{is_ascii_digit}
use Rattle.std.specs.Str.{bytes_eq}
use Rattle.junit_parts.specs.Bytes.{◌>>=◌, is_name, parted_at}
use Rattle.junit_parts.specs.declared.references.Meaning.{Meaning}
use Rattle.junit_parts.specs.declared.references.Meaning.TheVariants.{Character, Foreign}

-- what a digit is worth, and 99 of what is none
abbrev pub digit_value : ℕ → ℕ
digit_value b =
    if is_ascii_digit b then b - 48
    else (if nat_le 97 b && nat_le b 102 then b - 87
    else (if nat_le 65 b && nat_le b 70 then b - 55
    else 99))

abbrev pub all_digits : ℕ → List ℕ → Bool
all_digits base digits = list_all (λ b. nat_lt (digit_value b) base) digits

-- the number that digits say behind those of another number
unfoldable pub number_from : ℕ → ℕ → List ℕ → ℕ
number_from base so_far [] = so_far
number_from base so_far (b ∷ bs) = number_from base (base * so_far + digit_value b) bs

-- a character of Unicode is any number but those of surrogates
abbrev pub is_scalar : ℕ → Bool
is_scalar n = nat_lt n 0xD800 || (nat_le 0xE000 n && nat_lt n 0x110000)

abbrev pub character : ℕ → Option Meaning
character n = if is_scalar n then Some (Character n) else None

-- the character whose number one digit or more say
abbrev pub numbered : ℕ → List ℕ → Option Meaning
numbered base [] = None
numbered base (b ∷ bs) =
    if all_digits base (b ∷ bs) then character (number_from base 0 (b ∷ bs)) else None

-- a character by its number, or the name of another entity
abbrev pub other_meaning : List ℕ → Option Meaning
other_meaning body =
    if starts_with nat_eq body (codes "#x") then numbered 16 (drop 2 body)
    else (if starts_with nat_eq body (codes "#") then numbered 10 (drop 1 body)
    else (if is_name body then Some Foreign else None))

-- what stands between `&` and `;`: one of the five names, or another meaning
unfoldable pub meaning_of : List ℕ → Option Meaning
meaning_of body =
    if bytes_eq body (codes "lt") then Some (Character 60)
    else (if bytes_eq body (codes "gt") then Some (Character 62)
    else (if bytes_eq body (codes "amp") then Some (Character 38)
    else (if bytes_eq body (codes "quot") then Some (Character 34)
    else (if bytes_eq body (codes "apos") then Some (Character 39)
    else other_meaning body))))

-- what the bytes behind `&` mean, and what stands behind the `;`
unfoldable pub reference_from : List ℕ → Option (Meaning × List ℕ)
reference_from bytes = do
  parts ← parted_at (59 ∷ []) bytes
  meaning ← meaning_of parts.0
  Some (meaning, parts.1)
