-- The code's own words, which private contracts alone cite: what it asks of clap, and what it
-- refuses before.
use Rattle.std.specs.Prelude.{◌≡◌, ℕ, ◌==◌, ◌&&◌, Bool, true, false, not, List, [], ◌∷◌, Some, map}
use Rattle.std.specs.List.{list_all}
use Rattle.clap.specs.Lexer.{has_byte}
use Rattle.clap.specs.Simple.{App, new_rule, new_shape, with_rule}
use Rattle.clap.specs.Walk.{Rule, Text}
use Rattle.clap.specs.Words.{first_value, found_of, is_simple, is_simple_and_free}
use Rattle.clap.specs.declared.builder.action.ArgAction.TheVariants.{Set}
use Rattle.clap.specs.declared.builder.value_parser.ValueParser.TheVariants as vp
use Rattle.clap.specs.declared.parser.matches.ArgMatches.{ArgMatches}
use Rattle.program_words.specs.Options.{Given, OptionRow, value_of}

-- an option with one value that isn't empty
abbrev pub made_rule : List ℕ → Bool → Rule
made_rule name is_required = record (new_rule name) {
  long = Some name;
  required = is_required;
  action = Some Set;
  parser = Some vp.NonEmptyString;
}

-- a command with such options more
abbrev pub with_options : App → List OptionRow → App
with_options app [] = app
with_options app (o ∷ os) = with_options (with_rule app (made_rule o.name o.is_required)) os

-- a command with such options, and no help of clap's own
abbrev pub made_app : List ℕ → List OptionRow → App
made_app name options = record {
  top = record (new_shape name) {
    rules = map (λ o. made_rule o.name o.is_required) options;
    disable_help_flag = true;
  };
  subs = [];
}

-- two bytes or more, of which the first is a dash
abbrev pub is_named : List ℕ → Bool
is_named [] = false
is_named (b ∷ []) = false
is_named (b ∷ c ∷ bs) = b == 45

-- a word that begins with a dash, and isn't two dashes with something behind them
abbrev pub is_stray : List ℕ → Bool
is_stray [] = false
is_stray (b ∷ bs) = (b == 45) && not (is_named bs)

-- a name isn't empty and has no `=`
abbrev pub is_name : Text → Bool
is_name [] = false
is_name (b ∷ bs) = not (has_byte 61 (b ∷ bs))

abbrev pub are_names : List OptionRow → Bool
are_names os = list_all (λ o. is_name o.name) os

-- A command whose words clap takes just where the grammar has them.
pub record IsPlain (name : List ℕ) (table : List OptionRow) : Type 0 where
  pub word : is_stray name ≡ false
  pub names : are_names table ≡ true
  pub simple : is_simple (made_app name table) ≡ true
  pub free : is_simple_and_free (made_app name table) ≡ true

-- What clap found has the values that were given.
abbrev pub HasValues : List Given → ArgMatches → Type 0
HasValues givens found = (n : List ℕ) → first_value (found_of found) n ≡ value_of n givens
