-- Names of results: `invocations/{id}/tests/{escaped test id}/results/{result id}`.
use Rattle.std.specs.Prelude.{◌≡◌, ℕ, List, [], ◌∷◌, Option}
use Rattle.name_parts.specs.declared.faults.NameFault.{NameFault}
use Rattle.name_parts.specs.declared.names.Piece.{Piece}
use Rattle.name_parts.specs.declared.names.Piece.TheVariants as piece
use Rattle.names_realms.specs.declared.result_names.ResultName.{ResultName}
use Rattle.name_parts.specs.Pieces.{name_fault, name_text}
use Rattle.name_parts.specs.Sequences.{unless_empty}
use Rattle.names_realms.specs.Names.{IsInvocationId, IsTestId, IsResultId}

abbrev pub result_pieces : List Piece
result_pieces = piece.Invocation ∷ piece.Test ∷ piece.Result ∷ []

-- the one spelling of a name
unfoldable pub result_name : ResultName → List ℕ
result_name r = name_text result_pieces (r.invocation ∷ r.test ∷ r.result ∷ [])

-- the text is the name of a result
pub record IsResultName (r : ResultName) (text : List ℕ) : Type 0 where
  pub spelling : text ≡ result_name r
  pub invocation : IsInvocationId r.invocation
  pub test : IsTestId r.test
  pub result : IsResultId r.result

abbrev pub result_name_fault : List ℕ → Option NameFault
result_name_fault text = unless_empty (name_fault result_pieces) text
