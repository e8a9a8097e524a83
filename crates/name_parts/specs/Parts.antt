-- A part of a name, which has a form and a limit, and what is wrong with one.
use Rattle.std.specs.Prelude.{ℕ, ◌+◌, ◌≤◌, Bool, true, false, not, ◌&&◌, ◌||◌, ◌==◌, if◌then◌else◌, nat_lt, nat_eq, min, List, [], ◌∷◌, length, Option, Some, None, IsTrue, option_map}
use Rattle.std.specs.List.{list_all, position, common_prefix_len, slice_split}
use Rattle.std.specs.Char.{is_ascii_lowercase}
use Rattle.std.specs.Str.{is_utf8}
use Rattle.std.specs.Str.Lossy.{utf8_valid_len}
use Rattle.name_parts.specs.Alphabets.{is_small, may_begin, may_follow, most_letters}
use Rattle.name_parts.specs.declared.alphabets.Alphabet.{Alphabet}
use Rattle.name_parts.specs.declared.parts.PartForm.{PartForm}
use Rattle.name_parts.specs.declared.parts.PartForm.TheVariants.{Letters, TestId, PairKey}
use Rattle.name_parts.specs.declared.faults.NameFault.{NameFault}
use Rattle.name_parts.specs.declared.faults.NameFault.TheVariants.{Empty, TooLong, BadByte, NotCanonical, OutOfRange, Memory}

-- each byte may stand where it stands, and there is a first one
abbrev pub has_alphabet : Alphabet → List ℕ → Bool
has_alphabet alphabet [] = false
has_alphabet alphabet (b ∷ bs) = may_begin alphabet b && list_all (may_follow alphabet) bs

-- A control character begins here. They are U+0000 to U+001F, U+007F, and U+0080 to U+009F, which
-- UTF-8 spells 0xC2 and that byte.
abbrev pub begins_control : List ℕ → Bool
begins_control [] = false
begins_control (b ∷ []) = nat_lt b 32 || b == 127
begins_control (b ∷ c ∷ bs) = nat_lt b 32 || b == 127 || (b == 194 && nat_lt 127 c && nat_lt c 160)

-- how many bytes stand before the first control character, or all
abbrev pub control_place : List ℕ → ℕ
control_place [] = 0
control_place (b ∷ bs) = if begins_control (b ∷ bs) then 0 else 1 + control_place bs

-- UTF-8 of at least one byte, in which no control character begins
abbrev pub is_plain_text : List ℕ → Bool
is_plain_text [] = false
is_plain_text (b ∷ bs) = is_utf8 (b ∷ bs) && control_place (b ∷ bs) == length (b ∷ bs)

-- a byte that may stand in a word of a key behind the first
abbrev pub is_key_byte : ℕ → Bool
is_key_byte b = is_small b || b == 95

-- a lower-case letter, then letters, digits and `_`
abbrev pub is_word : List ℕ → Bool
is_word [] = false
is_word (b ∷ bs) = is_ascii_lowercase b && list_all is_key_byte bs

-- words that are parted by `/`
abbrev pub is_key : List ℕ → Bool
is_key text = list_all is_word (slice_split (λ b. b == 47) text)

-- the bytes are those of the form
abbrev pub has_letters : PartForm → List ℕ → Bool
has_letters (Letters alphabet) text = has_alphabet alphabet text
has_letters TestId text = is_plain_text text
has_letters PairKey text = is_key text

-- how many bytes there may be
abbrev pub most_bytes : PartForm → ℕ
most_bytes (Letters alphabet) = most_letters alphabet
most_bytes TestId = 512
most_bytes PairKey = 64

-- the bytes of the form, and no more than its limit
pub record IsPart (form : PartForm) (text : List ℕ) : Type 0 where
  pub letters : IsTrue (has_letters form text)
  pub most : length text ≤ most_bytes form

-- the first place whose byte may not stand there; a text without bytes ends too soon at 0
abbrev pub alphabet_place : Alphabet → List ℕ → Option ℕ
alphabet_place alphabet [] = Some 0
alphabet_place alphabet (b ∷ bs) =
    if may_begin alphabet b
    then option_map (λ n. n + 1) (position (λ x. not (may_follow alphabet x)) bs) else Some 0

-- the first place where no UTF-8 goes on or where a control character begins
abbrev pub text_place : List ℕ → Option ℕ
text_place [] = Some 0
text_place (b ∷ bs) =
    if min (utf8_valid_len (b ∷ bs)) (control_place (b ∷ bs)) == length (b ∷ bs) then None
    else Some (min (utf8_valid_len (b ∷ bs)) (control_place (b ∷ bs)))

-- Whether a key goes on with the byte at the start of a word, or behind it, and if so whether a
-- word starts then.
abbrev pub key_step : Bool → ℕ → Option Bool
key_step true b = if is_ascii_lowercase b then Some false else None
key_step false b = if is_key_byte b then Some false else (if b == 47 then Some true else None)

-- the first place where a key doesn't go on, its length where it ends at the start of a word
abbrev pub key_place_from : Bool → List ℕ → Option ℕ
key_place_from start [] = if start then Some 0 else None
key_place_from start (b ∷ bs) =
    elim (key_step start b)
    [ None ↦ Some 0 | Some next ↦ option_map (λ n. n + 1) (key_place_from next bs) ]

-- the first bad place of a part
abbrev pub bad_place : PartForm → List ℕ → Option ℕ
bad_place (Letters alphabet) text = alphabet_place alphabet text
bad_place TestId text = text_place text
bad_place PairKey text = key_place_from true text

-- the fault of so many bytes, of which there may be so many at most: that they are too many, then
-- their first bad place
abbrev pub limited_fault : ℕ → ℕ → Option ℕ → Option NameFault
limited_fault most len bad = if nat_lt most len then Some (TooLong len) else option_map BadByte bad

-- the fault of a part of which its emptiness is no fault of its own
abbrev pub unempty_fault : PartForm → List ℕ → Option NameFault
unempty_fault form text = limited_fault (most_bytes form) (length text) (bad_place form text)

-- the fault of a part: that it is empty, then that it is too long, then its first bad place
abbrev pub part_fault : PartForm → List ℕ → Option NameFault
part_fault form text = if length text == 0 then Some Empty else unempty_fault form text

-- the fault of a text that stands behind so many bytes
abbrev pub shifted : ℕ → NameFault → NameFault
shifted n Empty = Empty
shifted n (TooLong len) = TooLong len
shifted n (BadByte at) = BadByte (n + at)
shifted n (NotCanonical at) = NotCanonical (n + at)
shifted n OutOfRange = OutOfRange
shifted n Memory = Memory

-- the place that a fault names
abbrev pub place_of : NameFault → ℕ
place_of (BadByte at) = at
place_of (NotCanonical at) = at
place_of _ = 0

-- the first place at which the text isn't the literal, its length where it ends too soon
abbrev pub literal_bad_place : List ℕ → List ℕ → Option ℕ
literal_bad_place literal text =
    if (common_prefix_len nat_eq text literal == length text)
    && (common_prefix_len nat_eq text literal == length literal) then None
    else Some (common_prefix_len nat_eq text literal)
