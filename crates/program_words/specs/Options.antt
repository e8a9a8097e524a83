-- The options of a command, and how words give them.
use Rattle.std.specs.Prelude.{◌≡◌, ℕ, ◌==◌, ◌&&◌, ◌||◌, Bool, true, false, not, List, [], ◌∷◌, ◌++◌, length, Option, codes, nat_lt, find, option_map, flat_map, if◌then◌else◌}
use Rattle.std.specs.List.{list_all, list_any}
use Rattle.std.specs.Str.{bytes_eq}

-- An option of a command: its name behind `--`, the word that help shows for its value, and whether
-- it has to be given.
pub record OptionRow : Type 0 where
  pub name : List ℕ
  pub shown : List ℕ
  pub is_required : Bool

-- An option that the words give, with its value: in one word, as `--name=value`, or in two, as
-- `--name value`.
pub record Given : Type 0 where
  pub name : List ℕ
  pub value : List ℕ
  pub is_joined : Bool

abbrev pub spelled : Given → List (List ℕ)
spelled g = if g.is_joined then (codes "--" ++ (g.name ++ 61 ∷ g.value)) ∷ [] else (codes "--" ++ g.name) ∷ g.value ∷ []

abbrev pub begins_with_dash : List ℕ → Bool
begins_with_dash [] = false
begins_with_dash (b ∷ bs) = b == 45

-- The value isn't empty, and stands behind `=` where it begins with a dash.
abbrev pub has_value : Given → Bool
has_value g = nat_lt 0 (length g.value) && (g.is_joined || not (begins_with_dash g.value))

-- Whether the name is that of an option of the command, or of one that was given.
abbrev pub is_option : List OptionRow → List ℕ → Bool
is_option options name = list_any (λ o. bytes_eq o.name name) options

abbrev pub is_given : List Given → List ℕ → Bool
is_given givens name = list_any (λ g. bytes_eq g.name name) givens

-- None has the name of one before it.
abbrev pub are_new : List Given → List Given → Bool
are_new before [] = true
are_new before (g ∷ gs) = not (is_given before g.name) && are_new (before ++ g ∷ []) gs

-- The words behind a command's are the spellings of these, one after another. Each is an option of
-- the command, with a value, none stands twice, and what is required is there.
pub record AreOptions (options : List OptionRow) (givens : List Given)
    (words : List (List ℕ)) : Type 0 where
  pub in_words : words ≡ flat_map spelled givens
  pub known : list_all (λ g. is_option options g.name) givens ≡ true
  pub values : list_all has_value givens ≡ true
  pub once : are_new [] givens ≡ true
  pub whole : list_all (λ o. not o.is_required || is_given givens o.name) options ≡ true

-- The value that was given under this name.
abbrev pub value_of : List ℕ → List Given → Option (List ℕ)
value_of name givens = option_map (λ g. g.value) (find (λ g. bytes_eq g.name name) givens)
