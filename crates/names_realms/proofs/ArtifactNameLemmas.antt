-- The name of an artifact has no fault, and a text without one is such a name.
use Rattle.std.proofs.Common.{◌≡◌, ℕ, ◌+◌, ◌≤◌, ◌<◌, Bool, if◌then◌else◌, cond, get_or, inl, inr, length, true, false, List, [], ◌∷◌, ◌++◌, drop, codes, Some, None, refl, sym, ap, ◌∙◌, append_assoc, arith}
use Rattle.std.specs.Prelude.{◌==◌, nat_lt}
use Rattle.std.proofs.lemmas.Bool.{cases_Bool, eqb-true}
use Rattle.std.proofs.lemmas.Bool.Decides.{nat_tests}
use Rattle.name_parts.specs.declared.names.Piece.{Piece}
use Rattle.name_parts.specs.declared.names.Piece.TheVariants as piece
use Rattle.names_realms.specs.declared.artifact_names.ArtifactName.{ArtifactName}
use Rattle.names_realms.specs.declared.parents.Parent.{Parent}
use Rattle.names_realms.specs.declared.parents.Parent.TheVariants as parent
use Rattle.names_realms.specs.declared.result_names.ResultName.{ResultName}
use Rattle.name_parts.specs.declared.faults.NameFault.{NameFault}
use Rattle.name_parts.specs.Sequences.{unless_empty}
use Rattle.name_parts.specs.Pieces.{AreParts, name_fault, name_text, piece_text}
use Rattle.names_realms.specs.Names.{IsArtifactId, IsInvocationId}
use Rattle.names_realms.specs.ResultNames.{result_name}
use Rattle.names_realms.specs.Parents.{IsParentName, behind_id, parent_name}
use Rattle.names_realms.specs.ArtifactNames.{IsArtifactName, artifact_name, artifact_name_fault, artifact_pieces, goes_to_tests, long_pieces, short_pieces}
use Rattle.name_parts.proofs.NameLemmas.{name_fault-None, name_has_no_fault}
use Rattle.name_parts.proofs.SequenceLemmas.{unless_empty-cons}
use Rattle.names_realms.proofs.ParentLemmas.{id_before}

-- which of the two a text goes on as, by its first two bytes
not_more : (n : ℕ) → nat_lt (1 + n) 1 ≡ false
not_more n = grind (arith, nat_tests)

less : (n : ℕ) → nat_lt 1 (1 + (1 + n)) ≡ true
less n = grind (arith, nat_tests)

by_second : (c : ℕ) (bs : List ℕ) → goes_to_tests (47 ∷ c ∷ bs) ≡ (c == 116)
unfolding goes_to_tests
by_second c bs =
    elim (cases_Bool (c == 116)) [
      | inl is ↦ let same : c ≡ 116 = eqb-true c 116 is in rw same (less _)
      | inr other ↦ rw other (not_more _)
    ]

other_first : (b : ℕ) (bs : List ℕ) → (b == 47) ≡ false → goes_to_tests (b ∷ bs) ≡ false
unfolding goes_to_tests
other_first b bs other = rw other refl

one_byte : (b : ℕ) → goes_to_tests (b ∷ []) ≡ false
unfolding goes_to_tests
one_byte b =
    elim (b == 47) as (λ t. nat_lt (cond t (1 + 0) 0) (cond t (1 + 0) 0) ≡ false) [
      | true ↦ refl
      | false ↦ refl
    ]

no_byte : goes_to_tests [] ≡ false
unfolding goes_to_tests
no_byte = refl

pub goes-short : (text : List ℕ) → length text < 2 → goes_to_tests text ≡ false
goes-short [] few = no_byte
goes-short (b ∷ []) few = one_byte b
goes-short (b ∷ c ∷ bs) few = absurd (omega (arith, few))

pub goes-by_second : (text : List ℕ) → 2 ≤ length text → get_or text 0 0 ≡ 47 → goes_to_tests text ≡ (get_or text 1 0 == 116)
goes-by_second [] some is = absurd (omega (arith, some))
goes-by_second (b ∷ []) some is = absurd (omega (arith, some))
goes-by_second (b ∷ c ∷ bs) some is = ap (λ x. goes_to_tests (x ∷ c ∷ bs)) is ∙ by_second c bs

pub goes-other : (text : List ℕ) → (get_or text 0 0 == 47) ≡ false → goes_to_tests text ≡ false
goes-other [] other = no_byte
goes-other (b ∷ bs) other = other_first b bs other

-- the pieces and parts of an artifact's name
abbrev pub pieces_of : Parent → List Piece
pieces_of (parent.Invocation id) = short_pieces
pieces_of (parent.Result r) = long_pieces

abbrev pub parts_of : Parent → List ℕ → List (List ℕ)
parts_of (parent.Invocation id) artifact = id ∷ artifact ∷ []
parts_of (parent.Result r) artifact = r.invocation ∷ r.test ∷ r.result ∷ artifact ∷ []

pub regrouped : (p : Parent) (artifact : List ℕ) → parent_name p ++ piece_text piece.Artifact artifact ≡ name_text (pieces_of p) (parts_of p artifact)
unfolding result_name
regrouped (parent.Invocation id) artifact = simp append_assoc
regrouped (parent.Result r) artifact = simp append_assoc

pub are_parts : (p : Parent) (text artifact : List ℕ) → IsParentName p text → IsArtifactId artifact → AreParts (pieces_of p) (parts_of p artifact)
are_parts (parent.Invocation id) text artifact is is' = (is.1, (is', tt))
are_parts (parent.Result r) text artifact is is' = (is.invocation, (is.test, (is.result, (is', tt))))

-- what an artifact's name goes on with behind the id
goes_on : (id tail : List ℕ) (c : ℕ) → IsInvocationId id → goes_to_tests (behind_id (codes "invocations/" ++ (id ++ 47 ∷ c ∷ tail))) ≡ (c == 116)
goes_on id tail c is = ap goes_to_tests (id_before id (c ∷ tail) is) ∙ by_second c tail

fault_of : (p : Parent) (text artifact : List ℕ) → IsParentName p text → IsArtifactId artifact → artifact_name_fault (name_text (pieces_of p) (parts_of p artifact)) ≡ None
fault_of (parent.Invocation id) text artifact is is' =
    let name : List ℕ = name_text short_pieces (id ∷ artifact ∷ []) in
    let none : name_fault (artifact_pieces name) name ≡ None =
    ap (λ (t : Bool). name_fault (if t then long_pieces else short_pieces) name) (goes_on id (drop 2 (piece_text piece.Artifact artifact)) 97 is.1)
    ∙ name_has_no_fault piece.Invocation (piece.Artifact ∷ []) (id ∷ artifact ∷ []) refl (are_parts (parent.Invocation id) text artifact is is') in
    unless_empty-cons (λ t. name_fault (artifact_pieces t) t) 105 (drop 1 name) none
fault_of (parent.Result r) text artifact is is' =
    let name : List ℕ = name_text long_pieces (parts_of (parent.Result r) artifact) in
    let none : name_fault (artifact_pieces name) name ≡ None =
    ap (λ (t : Bool). name_fault (if t then long_pieces else short_pieces) name)
    (goes_on r.invocation (drop 2 (name_text (piece.Test ∷ piece.Result ∷ piece.Artifact ∷ []) (r.test ∷ r.result ∷ artifact ∷ []))) 116 is.invocation)
    ∙ name_has_no_fault piece.Invocation (piece.Test ∷ piece.Result ∷ piece.Artifact ∷ []) (parts_of (parent.Result r) artifact) refl (are_parts (parent.Result r) text artifact is is') in
    unless_empty-cons (λ t. name_fault (artifact_pieces t) t) 105 (drop 1 name) none

pub IsArtifactName-fault : (a : ArtifactName) (text : List ℕ) → IsArtifactName a text → artifact_name_fault text ≡ None
unfolding artifact_name
IsArtifactName-fault a text is =
    ap artifact_name_fault (is.spelling ∙ regrouped a.parent a.artifact) ∙ fault_of a.parent (parent_name a.parent) a.artifact is.parent is.artifact

-- a text whose pieces are these, and which has a fault, is no artifact's name
pub no_artifact : (t : Bool) (text : List ℕ) (f : NameFault) → goes_to_tests (behind_id text) ≡ t → unless_empty (name_fault (if t then long_pieces else short_pieces)) text ≡ Some f → (a : ArtifactName) → IsArtifactName a text → ⊥
no_artifact t text f is e a named =
    let none : artifact_name_fault text ≡ None = IsArtifactName-fault a text named in
    let both : None ≡ Some f = sym none ∙ ap (λ (b : Bool). unless_empty (name_fault (if b then long_pieces else short_pieces)) text) is ∙ e in cc

-- an artifact by its parts
pub short_named : (x y : List ℕ) (rest : List (List ℕ)) → AreParts short_pieces (x ∷ y ∷ rest) → IsArtifactName (record { parent = parent.Invocation x; artifact = y }) (name_text short_pieces (x ∷ y ∷ rest))
unfolding artifact_name
short_named x y rest are = record { spelling = sym (regrouped (parent.Invocation x) y); parent = (refl, are.0); artifact = are.1.0 }

pub long_named : (x y z w : List ℕ) (rest : List (List ℕ)) → AreParts long_pieces (x ∷ y ∷ z ∷ w ∷ rest) → IsArtifactName (record { parent = parent.Result (record { invocation = x; test = y; result = z }); artifact = w }) (name_text long_pieces (x ∷ y ∷ z ∷ w ∷ rest))
unfolding artifact_name
long_named x y z w rest are =
    let r : ResultName = record { invocation = x; test = y; result = z } in
    record {
      spelling = sym (regrouped (parent.Result r) w);
      parent = record { spelling = refl; invocation = are.0; test = are.1.0; result = are.1.1.0 };
      artifact = are.1.1.1.0;
    }

of_invocation : (parts : List (List ℕ)) → AreParts short_pieces parts → (a : ArtifactName) × IsArtifactName a (name_text short_pieces parts)
of_invocation [] are = absurd are
of_invocation (x ∷ []) are = absurd are.1
of_invocation (x ∷ y ∷ rest) are = (record { parent = parent.Invocation x; artifact = y }, short_named x y rest are)

of_result : (parts : List (List ℕ)) → AreParts long_pieces parts → (a : ArtifactName) × IsArtifactName a (name_text long_pieces parts)
of_result [] are = absurd are
of_result (x ∷ []) are = absurd are.1
of_result (x ∷ y ∷ []) are = absurd are.1.1
of_result (x ∷ y ∷ z ∷ []) are = absurd are.1.1.1
of_result (x ∷ y ∷ z ∷ w ∷ rest) are =
    (record { parent = parent.Result (record { invocation = x; test = y; result = z }); artifact = w }, long_named x y z w rest are)

moved_name : (text other : List ℕ) → text ≡ other → (a : ArtifactName) × IsArtifactName a other → (a : ArtifactName) × IsArtifactName a text
moved_name text other e found = (found.0, record { spelling = e ∙ found.1.spelling; parent = found.1.parent; artifact = found.1.artifact })

named_either : (t : Bool) (text : List ℕ) → name_fault (if t then long_pieces else short_pieces) text ≡ None → (a : ArtifactName) × IsArtifactName a text
named_either true text none =
    let has = name_fault-None piece.Invocation (piece.Test ∷ piece.Result ∷ piece.Artifact ∷ []) text none in moved_name text _ has.spelling (of_result has.parts has.are)
named_either false text none =
    let has = name_fault-None piece.Invocation (piece.Artifact ∷ []) text none in moved_name text _ has.spelling (of_invocation has.parts has.are)

pub artifact_by_name : (text : List ℕ) → name_fault (artifact_pieces text) text ≡ None → (a : ArtifactName) × IsArtifactName a text
artifact_by_name text none = named_either (goes_to_tests (behind_id text)) text none
