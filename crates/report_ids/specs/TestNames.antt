-- The ids of tests that are made of the names of cases.
use Rattle.std.specs.Prelude.{ℕ, ◌-◌, if◌then◌else◌, nat_le, List, [], ◌∷◌, ◌++◌, map, take, codes, encode_utf8_all}
use Rattle.std.specs.Char.{is_control, len_utf8}
use Rattle.std.specs.Str.{chars}
use Rattle.std.specs.Str.Lossy.{utf8_valid_len}

-- A character as it stands in the id of a test: a space in the place of each of U+0000 to U+001F
-- and U+007F to U+009F.
abbrev pub shown : ℕ → ℕ
shown c = if is_control c then 32 else c

-- The longest front of the characters that has at most so many bytes in UTF-8.
abbrev pub front_within : ℕ → List ℕ → List ℕ
front_within room [] = []
front_within room (c ∷ cs) =
    if nat_le (len_utf8 c) room then c ∷ front_within (room - len_utf8 c) cs else []

-- The text of bytes: all of them where they are UTF-8, and else what stands before the first that
-- isn't.
abbrev pub text_of : List ℕ → List ℕ
text_of bytes = take (utf8_valid_len bytes) bytes

-- The prefix and the name, each character as it is shown, as far as 512 bytes go.
abbrev pub shown_name : List ℕ → List ℕ → List ℕ
shown_name prefix name =
    encode_utf8_all (front_within 512 (map shown (chars (prefix ++ text_of name))))

abbrev pub or_unnamed : List ℕ → List ℕ
or_unnamed [] = codes "unnamed"
or_unnamed (b ∷ bs) = b ∷ bs

-- The id of the test of a case with this name.
unfoldable pub test_id_text : List ℕ → List ℕ → List ℕ
test_id_text prefix name = or_unnamed (shown_name prefix name)
