-- Bytes of a report, and runs of them from the front on.
use Rattle.std.specs.Prelude.{ℕ, ◌==◌, ◌||◌, ◌&&◌, nat_eq, not, nat_lt, if◌then◌else◌, Bool, false, List, [], ◌∷◌, take, drop, length, Option, Some, None}
use Rattle.std.specs.List.{position_or_len, starts_with}
use Rattle.std.specs.Char.{is_ascii_alphabetic, is_ascii_digit}

-- white space (XML 1.0, 2.3 S)
abbrev pub is_white : ℕ → Bool
is_white b = b == 32 || b == 9 || b == 10 || b == 13

-- what a name begins with (2.3 NameStartChar; every byte above 127 is one here)
abbrev pub starts_name : ℕ → Bool
starts_name b = is_ascii_alphabetic b || b == 95 || b == 58 || nat_lt 127 b

-- what it goes on with (2.3 NameChar)
abbrev pub continues_name : ℕ → Bool
continues_name b = starts_name b || is_ascii_digit b || b == 45 || b == 46

-- how many bytes pass a test from the front on
abbrev pub run_len : (ℕ → Bool) → List ℕ → ℕ
run_len p bytes = position_or_len (λ b. not (p b)) bytes

-- what stands behind white space
abbrev pub behind_white : List ℕ → List ℕ
behind_white bytes = drop (run_len is_white bytes) bytes

-- One thing after the other: what is read of the first, and then of the second, or nothing.
infixl 10 ◌>>=◌
abbrev pub ◌>>=◌ : {A B : Type 0} → Option A → (A → Option B) → Option B
(Some x) >>= f = f x
None >>= f = None

abbrev pub begins_name : List ℕ → Bool
begins_name [] = false
begins_name (b ∷ bs) = starts_name b

-- all of the bytes are a name
abbrev pub is_name : List ℕ → Bool
is_name bytes = begins_name bytes && run_len continues_name bytes == length bytes

-- a name, and what stands behind it (2.3 Name)
unfoldable pub name_from : List ℕ → Option (List ℕ × List ℕ)
name_from [] = None
name_from (b ∷ bs) =
    if starts_name b
    then Some (
      take (run_len continues_name (b ∷ bs)) (b ∷ bs),
      drop (run_len continues_name (b ∷ bs)) (b ∷ bs),
    )
    else None

-- this byte, and what stands behind it
unfoldable pub byte_from : ℕ → List ℕ → Option (List ℕ)
byte_from c [] = None
byte_from c (b ∷ bs) = if b == c then Some bs else None

-- What stands before the first place at which these bytes stand, and what stands behind them there.
unfoldable pub parted_at : List ℕ → List ℕ → Option (List ℕ × List ℕ)
parted_at mark [] = None
parted_at mark (b ∷ bs) =
    if starts_with nat_eq (b ∷ bs) mark
    then Some ([], drop (length mark) (b ∷ bs))
    else (parted_at mark bs >>= λ parts. Some (b ∷ parts.0, parts.1))
