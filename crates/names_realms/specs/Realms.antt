-- The grammar of realms, and what is wrong with a text that is none.
use Rattle.std.specs.Prelude.{◌≡◌, ℕ, ◌+◌, ◌⊎◌, ◌==◌, if◌then◌else◌, List, [], ◌∷◌, ◌++◌, length, take, drop, codes, Option, Some, option_map}
use Rattle.std.specs.List.{position_or_len}
use Rattle.std.specs.Option.{option_or}
use Rattle.name_parts.specs.declared.faults.NameFault.{NameFault}
use Rattle.name_parts.specs.declared.faults.NameFault.TheVariants.{Empty, BadByte}
use Rattle.name_parts.specs.declared.alphabets.Alphabet.TheVariants as alphabet
use Rattle.name_parts.specs.declared.parts.PartForm.TheVariants.{Letters}
use Rattle.name_parts.specs.Parts.{IsPart, bad_place, limited_fault, unempty_fault, shifted, literal_bad_place}

-- `@root`, or a part
abbrev pub IsSubrealm : List ℕ → Type 0
IsSubrealm text = (text ≡ codes "@root") ⊎ IsPart (Letters alphabet.Subrealm) text

-- a project, a colon, and what is asked for in the project
pub record IsRealm (text : List ℕ) : Type 0 where
  pub project : List ℕ
  pub subrealm : List ℕ
  pub parts : text ≡ project ++ 58 ∷ subrealm
  pub is_project : IsPart (Letters alphabet.Project) project
  pub is_subrealm : IsSubrealm subrealm

-- the first bad place behind the colon
abbrev pub bad_subrealm_place : List ℕ → Option ℕ
bad_subrealm_place [] = Some 0
bad_subrealm_place (b ∷ bs) =
    if b == 64 then literal_bad_place (codes "@root") (b ∷ bs)
    else bad_place (Letters alphabet.Subrealm) (b ∷ bs)

-- the fault behind a project that ends at this place
abbrev pub colon_fault : ℕ → List ℕ → Option NameFault
colon_fault place [] = Some (BadByte place)
colon_fault place (_ ∷ rest) =
    option_map (shifted (place + 1)) (limited_fault 400 (length rest) (bad_subrealm_place rest))

-- how long the project is: what stands before the first colon, or all where there is none
abbrev pub project_len : List ℕ → ℕ
project_len text = position_or_len (λ b. b == 58) text

-- the fault of a realm: of both parts together that they are empty, then of the project, then of
-- what stands behind it
abbrev pub realm_fault : List ℕ → Option NameFault
realm_fault text =
    if length text == 0 then Some Empty
    else option_or (unempty_fault (Letters alphabet.Project) (take (project_len text) text))
    (colon_fault (project_len text) (drop (project_len text) text))
