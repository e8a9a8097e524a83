-- The alphabets of ids.
use Rattle.std.specs.Prelude.{ℕ, Bool, not, ◌&&◌, ◌||◌, ◌==◌, List, codes}
use Rattle.std.specs.List.{list_any}
use Rattle.std.specs.Char.{is_ascii_lowercase, is_ascii_digit, is_ascii_alphanumeric}
use Rattle.name_parts.specs.declared.alphabets.Alphabet.{Alphabet}
use Rattle.name_parts.specs.declared.alphabets.Alphabet.TheVariants.{Invocation, Project, Subrealm, Outcome, Artifact}

-- the byte is one of the marks
abbrev pub is_in : List ℕ → ℕ → Bool
is_in marks b = list_any (λ m. m == b) marks

-- a lower-case letter or a digit
abbrev pub is_small : ℕ → Bool
is_small b = is_ascii_lowercase b || is_ascii_digit b

-- which bytes may stand behind the first
abbrev pub may_follow : Alphabet → ℕ → Bool
may_follow Invocation b = is_small b || is_in (codes "_-:.") b
may_follow Project b = is_small b || is_in (codes "-_") b
may_follow Subrealm b = is_small b || is_in (codes "_.-/") b
may_follow Outcome b = is_small b || is_in (codes "-_.") b
may_follow Artifact b = is_ascii_alphanumeric b || is_in (codes "-_./") b

-- which bytes may stand first
abbrev pub may_begin : Alphabet → ℕ → Bool
may_begin Invocation b = is_ascii_lowercase b
may_begin Project b = may_follow Project b
may_begin Subrealm b = may_follow Subrealm b
may_begin Outcome b = may_follow Outcome b
may_begin Artifact b = not (b == 47) && may_follow Artifact b

-- how many bytes there may be
abbrev pub most_letters : Alphabet → ℕ
most_letters Invocation = 100
most_letters Project = 100
most_letters Subrealm = 400
most_letters Outcome = 32
most_letters Artifact = 256
