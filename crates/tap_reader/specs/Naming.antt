-- The code's own words for how it names cases: from the last line to the first, with the names of
-- the parents that lines further in front would have.
use Rattle.std.specs.Prelude.{ℕ, zero, suc, List, [], ◌∷◌, ◌++◌, codes}
use Rattle.names_realms.specs.declared.states.Case.{Case}
use Rattle.tap_reader.specs.Counted.{Line}
use Rattle.tap_reader.specs.Cases.{case_said, name_for_subtest}

-- so many names: the first of these, and `unfinished` for those that aren't there
abbrev pub resized : ℕ → List (List ℕ) → List (List ℕ)
resized zero names = []
resized (suc n) [] = codes "unfinished" ∷ resized n []
resized (suc n) (name ∷ names) = name ∷ resized n names

-- the names of the parents of lines that stand before these
abbrev pub parents : List Line → List (List ℕ)
parents [] = []
parents (l ∷ ls) = resized l.level (parents ls) ++ name_for_subtest l.said ∷ []

-- the cases of these lines
abbrev pub named : List Line → List Case
named [] = []
named (l ∷ ls) = case_said (resized l.level (parents ls)) l.level l.said ++ named ls
