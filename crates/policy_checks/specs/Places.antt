-- What stands at a name and at a place.
use Rattle.std.specs.Prelude.{ℕ, List, [], ◌∷◌, map, slice_index_or, if◌then◌else◌}
use Rattle.std.specs.Str.{bytes_eq}
use Rattle.policy_tables.specs.declared.tables.Group.{Group}
use Rattle.policy_tables.specs.declared.tables.Role.{Role}

-- the role of a name; one that isn't there holds nothing
abbrev pub role_at : List ℕ → List Role → Role
role_at name [] = record { name = name; permissions = [] }
role_at name (r ∷ rs) = if bytes_eq name r.name then r else role_at name rs

-- the group of a name; one that isn't there has no members
abbrev pub group_at : List ℕ → List Group → Group
group_at name [] = record { name = name; members = [] }
group_at name (g ∷ gs) = if bytes_eq name g.name then g else group_at name gs

-- the texts of the role, and the members of the group, at a place
abbrev pub role_texts_at : List Role → ℕ → List (List ℕ)
role_texts_at roles place = slice_index_or (map (λ r. r.permissions) roles) place []

abbrev pub members_at_place : List Group → ℕ → List (List ℕ)
members_at_place groups place = slice_index_or (map (λ g. g.members) groups) place []
