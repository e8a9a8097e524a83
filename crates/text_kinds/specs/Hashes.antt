-- Hashes: `sha256:` and 64 lower-case hexadecimal digits.
use Rattle.std.specs.Prelude.{◌≡◌, ℕ, ◌+◌, ◌==◌, ◌&&◌, ◌||◌, ◌++◌, Bool, true, not, nat_lt, if◌then◌else◌, List, length, take, drop, codes, Option, Some, None, option_map}
use Rattle.std.specs.List.{list_all, position}
use Rattle.std.specs.Option.{option_or}
use Rattle.std.specs.Char.{is_ascii_digit}
use Rattle.json_fields.specs.NameParts.Parts.{literal_bad_place}
use Rattle.json_fields.specs.declared.whys.Why.{Why}
use Rattle.json_fields.specs.declared.whys.Why.TheVariants.{Empty, TooLong, BadByte}

-- 0 to 9, and a to f
abbrev pub is_lower_hex : ℕ → Bool
is_lower_hex b = is_ascii_digit b || (nat_lt 96 b && nat_lt b 103)

-- A text is a hash.
pub record IsHash (text : List ℕ) : Type 0 where
  pub digits : List ℕ
  pub whole : text ≡ codes "sha256:" ++ digits
  pub hexadecimal : list_all is_lower_hex digits ≡ true
  pub count : length digits ≡ 64

-- where a text that begins right ends too soon
abbrev pub end_place : List ℕ → Option ℕ
end_place text = if nat_lt (length text) 71 then Some (length text) else None

-- the first place behind the seventh byte that is no digit
abbrev pub digit_place : List ℕ → Option ℕ
digit_place text = option_map (λ n. n + 7) (position (λ b. not (is_lower_hex b)) (drop 7 text))

-- the first wrong place: in the front, then in the digits, then at the end
abbrev pub wrong_place : List ℕ → Option ℕ
wrong_place text =
    option_or (literal_bad_place (codes "sha256:") (take 7 text))
    (option_or (digit_place text) (end_place text))

-- What is wrong with a text that is no hash. That there is something exactly where it is none is
-- proved in `specs/Laws.antt`. It is empty, else too long, else wrong at its first wrong place.
abbrev pub hash_why : List ℕ → Option Why
hash_why text =
    if length text == 0 then Some Empty
    else (if nat_lt 71 (length text) then Some (TooLong (length text))
    else option_map BadByte (wrong_place text))
