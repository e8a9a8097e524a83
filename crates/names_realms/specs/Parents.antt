-- What holds artifacts: an invocation or a result, by its name.
use Rattle.std.specs.Prelude.{ℕ, ◌==◌, if◌then◌else◌, List, [], ◌∷◌, length, drop, codes, Option}
use Rattle.name_parts.specs.declared.faults.NameFault.{NameFault}
use Rattle.name_parts.specs.declared.names.Piece.{Piece}
use Rattle.name_parts.specs.declared.names.Piece.TheVariants as piece
use Rattle.names_realms.specs.declared.parents.Parent.{Parent}
use Rattle.names_realms.specs.declared.parents.Parent.TheVariants.{Invocation, Result}
use Rattle.name_parts.specs.Pieces.{name_fault}
use Rattle.name_parts.specs.Sequences.{slash_place, unless_empty}
use Rattle.names_realms.specs.Names.{IsInvocationName, invocation_name}
use Rattle.names_realms.specs.ResultNames.{IsResultName, result_name, result_pieces}

-- the one spelling of a name
abbrev pub parent_name : Parent → List ℕ
parent_name (Invocation id) = invocation_name id
parent_name (Result name) = result_name name

-- the text is the name of this invocation or result
abbrev pub IsParentName : Parent → List ℕ → Type 0
IsParentName (Invocation id) text = IsInvocationName id text
IsParentName (Result name) text = IsResultName name text

-- what stands behind the id of an invocation, from its `/` on
abbrev pub from_slash : List ℕ → List ℕ
from_slash text = drop (slash_place text) text

abbrev pub behind_id : List ℕ → List ℕ
behind_id text = from_slash (drop (length (codes "invocations/")) text)

-- An invocation's id stands alone, or, where a `/` comes, in a result's name.
abbrev pub parent_pieces : List ℕ → List Piece
parent_pieces text =
    if length (behind_id text) == 0 then piece.Invocation ∷ [] else result_pieces

abbrev pub parent_fault : List ℕ → Option NameFault
parent_fault text = unless_empty (λ t. name_fault (parent_pieces t) t) text
