-- What one line of a report says, by the table of TAP 14.
use Rattle.std.specs.Prelude.{ℕ, ◌+◌, ◌-◌, ◌*◌, ◌/◌, ◌%◌, ◌==◌, ◌&&◌, if◌then◌else◌, nat_lt, nat_eq, Bool, true, false, List, [], ◌∷◌, length, take, drop, codes, Option, Some, None, option_map, is_some}
use Rattle.std.specs.List.{prefix_len, suffix_len, starts_with}
use Rattle.std.specs.Char.{is_ascii_digit}
use Rattle.std.specs.Str.{bytes_eq, str_eq_ignore_ascii_case}
use Rattle.tap_reader.specs.declared.entries.Directive.{Directive}
use Rattle.tap_reader.specs.declared.entries.Directive.TheVariants.{Skip, Todo}

-- a test point: whether it passed, its number where it has one, its directive, its description as
-- it is written, and the lines of its diagnostic
pub record Test : Type 0 where
  pub passed : Bool
  pub number : Option ℕ
  pub directive : Option Directive
  pub description : List ℕ
  pub diagnostic : List (List ℕ)

-- what a line that counts says: a plan of so many points, a point, that the run was given up, that
-- a diagnostic begins which doesn't end; and a number that a plan names and no point has
pub data Said : Type 0 where
  Plan : ℕ → Said
  Point : Test → Said
  Bail : Said
  Open : Said
  Missing : ℕ → Said

-- how many spaces a text begins with
abbrev pub spaces : List ℕ → ℕ
spaces text = prefix_len (λ b. b == 32) text

-- how many digits a text begins with
abbrev pub digits : List ℕ → ℕ
digits text = prefix_len is_ascii_digit text

-- the text without its first spaces
abbrev pub unspaced : List ℕ → List ℕ
unspaced text = drop (spaces text) text

-- the text without the spaces at its ends
unfoldable pub trimmed : List ℕ → List ℕ
trimmed text = take (length (unspaced text) - suffix_len
    (λ b. b == 32) (unspaced text)) (unspaced text)

-- the text is at its end, or a space stands here
abbrev pub ends_word : List ℕ → Bool
ends_word [] = true
ends_word (b ∷ bs) = b == 32

-- the number that digits spell behind those that spell n
abbrev pub number_from : ℕ → List ℕ → ℕ
number_from n [] = n
number_from n (b ∷ bs) = number_from (10 * n + (b - 48)) bs

-- numbers have 1 to 9 digits
abbrev pub is_number_len : ℕ → Bool
is_number_len n = nat_lt 0 n && nat_lt n 10

-- behind a plan stands nothing, or spaces, `#` and anything
abbrev pub ends_plan : List ℕ → Bool
ends_plan [] = true
ends_plan (b ∷ bs) = b == 32 && starts_with nat_eq (unspaced bs) (codes "#")

-- the plan behind its `1..`
unfoldable pub plan_in : List ℕ → Option Said
plan_in text =
    if is_number_len (digits text) && ends_plan (drop (digits text) text)
    then Some (Plan (number_from 0 (take (digits text) text))) else None

-- How many bytes stand before the first `#` behind a space, or all. Such a `#` is never escaped,
-- since an escaped one stands right behind its backslash.
abbrev pub hash_place : ℕ → List ℕ → ℕ
hash_place before [] = 0
hash_place before (b ∷ bs) = if before == 32 && b == 35 then 0 else 1 + hash_place b bs

-- the text begins with this word, in letters of any case
abbrev pub begins_word : List ℕ → List ℕ → Bool
begins_word word text = str_eq_ignore_ascii_case (take (length word) text) word
    && ends_word (drop (length word) text)

-- the directive that stands behind a `#`
unfoldable pub directive_in : List ℕ → Option Directive
directive_in text =
    if begins_word (codes "SKIP") (unspaced text) then Some Skip
    else (if begins_word (codes "TODO") (unspaced text) then Some Todo else None)

-- the text behind a dash, if it begins with one that is a word
abbrev pub undashed : List ℕ → List ℕ
undashed text = if starts_with nat_eq text (codes "-") && ends_word (drop 1 text) then drop 2 text
    else text

-- a point with what stands behind its number: its description goes up to its directive
unfoldable pub described : Bool → Option ℕ → List ℕ → Test
described passed number text =
    let place = hash_place 32 (undashed text) in
    let directive = directive_in (drop (place + 1) (undashed text)) in
    record {
      passed = passed;
      number = number;
      directive = directive;
      description = trimmed (if is_some directive then take place (undashed text)
          else undashed text);
      diagnostic = [];
    }

-- a point with what stands behind `ok` and one space
unfoldable pub numbered_in : Bool → List ℕ → Test
numbered_in passed text =
    if is_number_len (digits text) && ends_word (drop (digits text) text)
    then described passed (Some (number_from 0
    (take (digits text) text))) (drop (digits text + 1) text)
    else described passed None text

-- the point behind its `ok` or `not ok`
unfoldable pub point_in : Bool → List ℕ → Option Said
point_in passed text = if ends_word text then Some (Point (numbered_in passed (drop 1 text)))
    else None

-- what a line says behind its indent
unfoldable pub said_in : List ℕ → Option Said
said_in text =
    if starts_with nat_eq text (codes "1..") then plan_in (drop 3 text)
    else (if starts_with nat_eq text (codes "ok") then point_in true (drop 2 text)
    else (if starts_with nat_eq text (codes "not ok") then point_in false (drop 6 text)
    else (if starts_with nat_eq text (codes "Bail out!") then Some Bail else None)))

-- What a line says, and at which level: four spaces each. A line counts only where no spaces are
-- left over.
unfoldable pub said_by : List ℕ → Option (ℕ × Said)
said_by line =
    if spaces line % 4 == 0 then option_map (λ s. (spaces line / 4, s)) (said_in (unspaced line))
    else None

-- the line is this mark at the indent of the diagnostics of points of the level
unfoldable pub is_mark : List ℕ → ℕ → List ℕ → Bool
is_mark mark level line = spaces line == 4 * level + 2 && bytes_eq (unspaced line) mark
