-- The grammar of the lines that count: a relation between a line's bytes and what it says, by the
-- table of TAP 14.
use Rattle.std.specs.Prelude.{◌≡◌, ◌≢◌, ℕ, ◌*◌, ◌≤◌, Bool, true, false, List, [], ◌∷◌, ◌++◌, length, replicate, codes, Option, Some, None}
use Rattle.std.specs.List.{list_all}
use Rattle.std.specs.Char.{is_ascii_digit}
use Rattle.std.specs.Str.{str_eq_ignore_ascii_case}
use Rattle.tap_reader.specs.declared.entries.Directive.{Directive}
use Rattle.tap_reader.specs.declared.entries.Directive.TheVariants as directive
use Rattle.tap_reader.specs.LineForms.{Said, Plan, Point, Bail, Test, number_from}

-- one to nine digits, and the number that they spell
pub record IsNumber (text : List ℕ) (number : ℕ) : Type 0 where
  pub digits : list_all is_ascii_digit text ≡ true
  pub some : 1 ≤ length text
  pub few : length text ≤ 9
  pub spelled : number ≡ number_from 0 text

-- a word ends here: nothing stands here, or a space and this
pub data EndsWord (text rest : List ℕ) : Type 0 where
  ends_text : text ≡ [] → rest ≡ [] → EndsWord text rest
  ends_space : text ≡ 32 ∷ rest → EndsWord text rest

-- nothing, or a comment: spaces, `#` and anything
pub data IsComment (text : List ℕ) : Type 0 where
  no_comment : text ≡ [] → IsComment text
  some_comment : (n : ℕ) (rest : List ℕ) → text ≡ 32 ∷ (replicate n 32 ++ 35 ∷ rest)
      → IsComment text

-- a plan: `1..`, how many points it is for, and nothing or a comment
pub record IsPlan (text : List ℕ) (count : ℕ) : Type 0 where
  pub digits : List ℕ
  pub comment : List ℕ
  pub spelled : text ≡ codes "1.." ++ (digits ++ comment)
  pub is_number : IsNumber digits count
  pub is_comment : IsComment comment

-- a number that is a word, and what stands behind it
pub record IsNumberWord (text : List ℕ) (number : ℕ) (rest : List ℕ) : Type 0 where
  pub digits : List ℕ
  pub tail : List ℕ
  pub spelled : text ≡ digits ++ tail
  pub is_number : IsNumber digits number
  pub word : EndsWord tail rest

-- the number of a point, where a number stands there as a word
pub data IsNumbered (text : List ℕ) (number : Option ℕ) (rest : List ℕ) : Type 0 where
  with_number : (n : ℕ) → IsNumberWord text n rest → number ≡ Some n → IsNumbered text number rest
  without_number : ((n : ℕ) (behind : List ℕ) → ¬ IsNumberWord text n behind) → number ≡ None
      → rest ≡ text → IsNumbered text number rest

-- a dash that is a word, and what stands behind it
pub record IsDash (text rest : List ℕ) : Type 0 where
  pub tail : List ℕ
  pub spelled : text ≡ 45 ∷ tail
  pub word : EndsWord tail rest

-- the text behind a dash, where one stands there
pub data IsDashed (text rest : List ℕ) : Type 0 where
  with_dash : IsDash text rest → IsDashed text rest
  without_dash : ((behind : List ℕ) → ¬ IsDash text behind) → rest ≡ text → IsDashed text rest

-- the last byte of a text that stands behind a space, or that space
abbrev pub last_from : ℕ → List ℕ → ℕ
last_from before [] = before
last_from before (b ∷ bs) = last_from b bs

-- A `#` behind a space, what stands before it and what behind it. An escaped `#` stands behind a
-- backslash, so it is none of these.
pub record IsHash (text before behind : List ℕ) : Type 0 where
  pub spelled : text ≡ before ++ 35 ∷ behind
  pub space : last_from 32 before ≡ 32

-- the first of these
pub record IsFirstHash (text before behind : List ℕ) : Type 0 where
  pub here : IsHash text before behind
  pub first : (xs ys : List ℕ) → IsHash text xs ys → length before ≤ length xs

abbrev pub directive_word : Directive → List ℕ
directive_word directive.Skip = codes "SKIP"
directive_word directive.Todo = codes "TODO"

-- the word of a directive, in letters of any case, behind spaces
pub record IsDirective (text : List ℕ) (d : Directive) : Type 0 where
  pub indent : ℕ
  pub word : List ℕ
  pub tail : List ℕ
  pub rest : List ℕ
  pub spelled : text ≡ replicate indent 32 ++ (word ++ tail)
  pub in_any_case : str_eq_ignore_ascii_case word (directive_word d) ≡ true
  pub ends : EndsWord tail rest

-- a text without the spaces at its ends
pub record IsTrimmed (text inner : List ℕ) : Type 0 where
  pub before : ℕ
  pub behind : ℕ
  pub spelled : text ≡ replicate before 32 ++ (inner ++ replicate behind 32)
  pub first : (rest : List ℕ) → inner ≢ 32 ∷ rest
  pub last : (front : List ℕ) → inner ≢ front ++ 32 ∷ []

-- A description, and the directive behind the first `#` that stands behind a space. Where that is
-- none, the `#` belongs to the description.
pub data IsDescribed (text description : List ℕ) (directive : Option Directive) : Type 0 where
  with_directive : (before behind : List ℕ) (d : Directive) → IsFirstHash text before behind
      → IsDirective behind d → directive ≡ Some d → IsTrimmed before description
      → IsDescribed text description directive
  without_directive : ((before behind : List ℕ) (d : Directive) → IsFirstHash text before behind
      → ¬ IsDirective behind d) → directive ≡ None → IsTrimmed text description
      → IsDescribed text description directive

abbrev pub result_word : Bool → List ℕ
result_word true = codes "ok"
result_word false = codes "not ok"

-- a point: its result, and where they stand there its number, a dash, its description and its
-- directive
pub record IsPoint (text : List ℕ) (t : Test) : Type 0 where
  pub tail : List ℕ
  pub numbered : List ℕ
  pub dashed : List ℕ
  pub described : List ℕ
  pub spelled : text ≡ result_word t.passed ++ tail
  pub word : EndsWord tail numbered
  pub number : IsNumbered numbered t.number dashed
  pub dash : IsDashed dashed described
  pub description : IsDescribed described t.description t.directive
  pub bare : t.diagnostic ≡ []

-- what a text says: a plan, a point, or that the run was given up
pub data IsSaid (text : List ℕ) (said : Said) : Type 0 where
  says_plan : (count : ℕ) → IsPlan text count → said ≡ Plan count → IsSaid text said
  says_point : (t : Test) → IsPoint text t → said ≡ Point t → IsSaid text said
  says_bail_out : (rest : List ℕ) → text ≡ codes "Bail out!" ++ rest → said ≡ Bail → IsSaid text said

-- a line that counts: four spaces a level, and what says this
pub record IsLine (line : List ℕ) (level : ℕ) (said : Said) : Type 0 where
  pub text : List ℕ
  pub spelled : line ≡ replicate (4 * level) 32 ++ text
  pub says : IsSaid text said
