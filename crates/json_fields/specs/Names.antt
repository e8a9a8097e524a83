-- The names of members.
use Rattle.std.specs.Prelude.{ℕ, List}

-- the two names of a member: in lowerCamelCase, and as the proto spells it
pub record NameForm : Type 0 where
  pub camel : List ℕ
  pub proto : List ℕ

abbrev pub named : List ℕ → List ℕ → NameForm
named camel proto = record { camel = camel; proto = proto }

-- a name that both spell alike
abbrev pub word : List ℕ → NameForm
word text = named text text
