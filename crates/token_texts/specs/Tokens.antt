-- The tokens of values, and what is added to those of a writer.
use Rattle.std.specs.Prelude.{◌≡◌, ◌++◌, ℕ, List, [], ◌∷◌, Option, Some, None}
use Rattle.json.specs.Token.{Token, key}
use Rattle.json.specs.Tree.{json_tokens}
use Rattle.json.specs.Written.{Written}
use Rattle.serde_json.specs.Data.{Data}
use Rattle.serde_json.specs.Written.{outline}
use Rattle.pair_kinds.specs.JsonFields.Writing.{list_data}

abbrev pub tokens_of : Data → List Token
tokens_of d = json_tokens (outline d)

-- of a member; none where it has no value
abbrev pub member_tokens : List ℕ → Option Data → List Token
member_tokens name None = []
member_tokens name (Some d) = key name ∷ tokens_of d

-- These tokens were added, and nothing else of the writer changed that is seen in its text.
pub record IsAdded (old new : Written) (added : List Token) : Type 0 where
  pub before : new.before ≡ old.before
  pub tokens : new.tokens ≡ old.tokens ++ added

-- A list; none where it is empty.
abbrev pub list_shown : {A : Type 0} → (A → Data) → List A → Option Data
list_shown json [] = None
list_shown json (x ∷ xs) = Some (list_data json (x ∷ xs))
