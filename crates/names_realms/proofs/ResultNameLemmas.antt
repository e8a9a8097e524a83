-- The name of a result has no fault, and a text without one is such a name.
use Rattle.std.proofs.Common.{◌≡◌, ℕ, List, [], ◌∷◌, None, refl, ap, ◌∙◌}
use Rattle.name_parts.specs.declared.names.Piece.TheVariants as piece
use Rattle.names_realms.specs.declared.result_names.ResultName.{ResultName}
use Rattle.name_parts.specs.Pieces.{AreParts, name_fault, name_text}
use Rattle.names_realms.specs.ResultNames.{IsResultName, result_name, result_name_fault, result_pieces}
use Rattle.name_parts.proofs.NameLemmas.{name_fault-None, name_has_no_fault}
use Rattle.name_parts.proofs.SequenceLemmas.{unless_empty-cons}

abbrev pub result_parts : ResultName → List (List ℕ)
result_parts r = r.invocation ∷ r.test ∷ r.result ∷ []

pub IsResultName-parts : (r : ResultName) (text : List ℕ) → IsResultName r text → AreParts result_pieces (result_parts r)
IsResultName-parts r text is = (is.invocation, (is.test, (is.result, tt)))

pub name-None : (r : ResultName) (text : List ℕ) → IsResultName r text → name_fault result_pieces (result_name r) ≡ None
unfolding result_name
name-None r text is = name_has_no_fault piece.Invocation (piece.Test ∷ piece.Result ∷ []) (result_parts r) refl (IsResultName-parts r text is)

not_empty : (r : ResultName) → name_fault result_pieces (result_name r) ≡ None → result_name_fault (result_name r) ≡ None
unfolding result_name
not_empty r none = unless_empty-cons (name_fault result_pieces) _ _ none

pub IsResultName-fault : (r : ResultName) (text : List ℕ) → IsResultName r text → result_name_fault text ≡ None
IsResultName-fault r text is = ap result_name_fault is.spelling ∙ not_empty r (name-None r text is)

-- a result by its parts
pub result_of : (text : List ℕ) (parts : List (List ℕ)) → text ≡ name_text result_pieces parts → AreParts result_pieces parts → (r : ResultName) × IsResultName r text
unfolding result_name
result_of text [] e are = absurd are
result_of text (x ∷ []) e are = absurd are.1
result_of text (x ∷ y ∷ []) e are = absurd are.1.1
result_of text (x ∷ y ∷ z ∷ []) e are =
    (record { invocation = x; test = y; result = z }, record { spelling = e; invocation = are.0; test = are.1.0; result = are.1.1.0 })
result_of text (x ∷ y ∷ z ∷ w ∷ ws) e are = absurd are.1.1.1

pub result_named : (text : List ℕ) → name_fault result_pieces text ≡ None → (r : ResultName) × IsResultName r text
result_named text none =
    let has = name_fault-None piece.Invocation (piece.Test ∷ piece.Result ∷ []) text none in
    result_of text has.parts has.spelling has.are
