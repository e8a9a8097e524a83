-- The name of a parent has no fault, and a text without one is such a name.
use Rattle.std.proofs.Common.{◌≡◌, ℕ, Bool, true, false, if◌then◌else◌, List, [], ◌∷◌, ◌++◌, length, drop, Some, None, refl, sym, ap, ◌∙◌, arith}
use Rattle.std.proofs.lemmas.Bool.{ne_eqb}
use Rattle.std.proofs.lemmas.List.{drop_all, drop_at}
use Rattle.std.specs.Prelude.{◌==◌}
use Rattle.name_parts.specs.declared.names.Piece.TheVariants as piece
use Rattle.names_realms.specs.declared.parents.Parent.{Parent}
use Rattle.names_realms.specs.declared.parents.Parent.TheVariants as parent
use Rattle.names_realms.specs.declared.result_names.ResultName.{ResultName}
use Rattle.name_parts.specs.Pieces.{AreParts, name_fault, name_text}
use Rattle.name_parts.specs.declared.faults.NameFault.{NameFault}
use Rattle.name_parts.specs.Sequences.{slash_place, unless_empty}
use Rattle.names_realms.specs.Names.{IsInvocationId, IsInvocationName, invocation_name}
use Rattle.names_realms.specs.ResultNames.{IsResultName, result_name, result_pieces}
use Rattle.names_realms.specs.Parents.{IsParentName, behind_id, from_slash, parent_fault, parent_pieces}
use Rattle.name_parts.proofs.ByteLemmas.{invocation_without_slash}
use Rattle.name_parts.proofs.CutLemmas.{cut_before, no_cut}
use Rattle.name_parts.proofs.NameLemmas.{name_fault-None, name_has_no_fault}
use Rattle.name_parts.proofs.SequenceLemmas.{unless_empty-cons}
use Rattle.names_realms.proofs.ResultNameLemmas.{name-None, result_named}

-- an id alone, and one before a slash
id_alone : (id : List ℕ) → IsInvocationId id → from_slash id ≡ []
id_alone id is =
    let place : slash_place id ≡ length id = no_cut 47 id (invocation_without_slash id is) in drop_all (slash_place id) id (omega (arith, place))

pub id_before : (id tail : List ℕ) → IsInvocationId id → from_slash (id ++ 47 ∷ tail) ≡ 47 ∷ tail
id_before id tail is =
    drop_at id (47 ∷ tail) (slash_place (id ++ 47 ∷ tail)) (sym (cut_before 47 id tail (invocation_without_slash id is)))

named_id : (id : List ℕ) → IsInvocationId id → parent_fault (invocation_name id) ≡ None
named_id id is =
    let none : name_fault (parent_pieces (invocation_name id)) (invocation_name id) ≡ None =
    ap (λ (t : List ℕ). name_fault (if length t == 0 then piece.Invocation ∷ [] else result_pieces) (invocation_name id)) (id_alone id is)
    ∙ name_has_no_fault piece.Invocation [] (id ∷ []) refl (is, tt) in
    unless_empty-cons (λ t. name_fault (parent_pieces t) t) 105 (drop 1 (invocation_name id)) none

-- what stands behind the id in a result's name
abbrev tests_tail : ResultName → List ℕ
tests_tail r = drop 1 (name_text (piece.Test ∷ piece.Result ∷ []) (r.test ∷ r.result ∷ []))

named_result : (r : ResultName) (text : List ℕ) → IsResultName r text → parent_fault (result_name r) ≡ None
unfolding result_name
named_result r text is =
    let some : (length (47 ∷ tests_tail r) == 0) ≡ false = ne_eqb (length (47 ∷ tests_tail r)) 0 (λ e. omega (arith, e)) in
    let none : name_fault (parent_pieces (result_name r)) (result_name r) ≡ None =
    ap (λ (t : List ℕ). name_fault (if length t == 0 then piece.Invocation ∷ [] else result_pieces) (result_name r)) (id_before r.invocation (tests_tail r) is.invocation)
    ∙ ap (λ (b : Bool). name_fault (if b then piece.Invocation ∷ [] else result_pieces) (result_name r)) some ∙ name-None r text is in
    unless_empty-cons (λ t. name_fault (parent_pieces t) t) 105 (drop 1 (result_name r)) none

pub IsParentName-fault : (p : Parent) (text : List ℕ) → IsParentName p text → parent_fault text ≡ None
IsParentName-fault (parent.Invocation id) text is = ap parent_fault is.0 ∙ named_id id is.1
IsParentName-fault (parent.Result r) text is = ap parent_fault is.spelling ∙ named_result r text is

-- a parent by its parts
pub invocation_of : (text : List ℕ) (parts : List (List ℕ)) → text ≡ name_text (piece.Invocation ∷ []) parts → AreParts (piece.Invocation ∷ []) parts → (id : List ℕ) × IsInvocationName id text
invocation_of text [] e are = absurd are
invocation_of text (id ∷ []) e are = (id, (e, are.0))
invocation_of text (id ∷ x ∷ xs) e are = absurd are.1

named_either : (t : Bool) (text : List ℕ) → name_fault (if t then piece.Invocation ∷ [] else result_pieces) text ≡ None → (p : Parent) × IsParentName p text
named_either true text none =
    let has = name_fault-None piece.Invocation [] text none in
    let found = invocation_of text has.parts has.spelling has.are in (parent.Invocation found.0, found.1)
named_either false text none = let found = result_named text none in (parent.Result found.0, found.1)

pub parent_by_name : (text : List ℕ) → name_fault (parent_pieces text) text ≡ None → (p : Parent) × IsParentName p text
parent_by_name text none = named_either (length (behind_id text) == 0) text none

-- a text whose pieces are these, and which has a fault, is no parent's name
pub no_parent : (t : Bool) (text : List ℕ) (f : NameFault) → (length (behind_id text) == 0) ≡ t → unless_empty (name_fault (if t then piece.Invocation ∷ [] else result_pieces)) text ≡ Some f → (p : Parent) → IsParentName p text → ⊥
no_parent t text f is e p named =
    let none : parent_fault text ≡ None = IsParentName-fault p text named in
    let both : None ≡ Some f = sym none ∙ ap (λ (b : Bool). unless_empty (name_fault (if b then piece.Invocation ∷ [] else result_pieces)) text) is ∙ e in cc
