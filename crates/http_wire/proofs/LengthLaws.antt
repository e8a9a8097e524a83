-- A text that is a length.
use Rattle.std.proofs.Common.{◌≡◌, ℕ, ◌≤◌, true, List, [], ◌∷◌, length, refl, ap}
use Rattle.std.specs.Prelude.{◌&&◌}
use Rattle.std.specs.Char.{is_ascii_digit}
use Rattle.std.specs.List.{list_all}
use Rattle.std.specs.Str.{all_ascii_digits}
use Rattle.std.specs.Str.Parse.{AllDigits}
use Rattle.std.proofs.lemmas.Bool.{and_parts, leb-true}
use Rattle.std.proofs.lemmas.Str.Parse.{numerals_by_value, tells_all_ascii_digits}
use Rattle.http_wire.specs.Form.{is_length}

-- it is at most 10 digits
pub digits_of_length : (text : List ℕ) → is_length text ≡ true → (length text ≤ 10) × AllDigits 10 text
digits_of_length text h =
    let a = and_parts _ _ h in
    let b = and_parts _ _ a.0 in
    (leb-true (length text) 10 b.1, (numerals_by_value (λ ds. all_ascii_digits ds ≡ true) tells_all_ascii_digits).to text a.1)

-- all digits, as a test of each byte
pub each_digit : (text : List ℕ) → list_all is_ascii_digit text ≡ all_ascii_digits text
each_digit [] = refl
each_digit (b ∷ bs) = ap (λ rest. is_ascii_digit b && rest) (each_digit bs)
