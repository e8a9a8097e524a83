-- One text names at most one value.
use Rattle.std.proofs.Common.{◌≡◌, ℕ, List, [], ◌∷◌, ◌++◌, length, get_or, codes, refl, sym, ap, ◌∙◌, length-append, arith}
use Rattle.std.proofs.lemmas.List.{append_cancel_left}
use Rattle.names_realms.specs.declared.result_names.ResultName.{ResultName}
use Rattle.names_realms.specs.declared.parents.Parent.{Parent}
use Rattle.names_realms.specs.declared.parents.Parent.TheVariants as parent
use Rattle.name_parts.specs.declared.names.Piece.TheVariants as piece
use Rattle.name_parts.specs.Pieces.{name_text, piece_text}
use Rattle.name_parts.specs.Sequences.{slash_place}
use Rattle.names_realms.specs.Names.{IsInvocationId, IsArtifactId, IsInvocationName}
use Rattle.names_realms.specs.ResultNames.{IsResultName, result_name}
use Rattle.names_realms.specs.Parents.{IsParentName}
use Rattle.names_realms.specs.ArtifactNames.{artifact_name, long_pieces, short_pieces}
use Rattle.names_realms.specs.Laws.{OneArtifactNamed, OneInvocationNamed, OneParentNamed, OneResultNamed}
use Rattle.name_parts.proofs.CutLemmas.{cut_before, no_cut}
use Rattle.name_parts.proofs.ByteLemmas.{invocation_without_slash}
use Rattle.name_parts.proofs.CutLaws.{Lacks, cut_alike}
use Rattle.name_parts.proofs.NameLemmas.{one_list_of_parts}
use Rattle.names_realms.proofs.ResultNameLemmas.{IsResultName-parts, result_parts}
use Rattle.names_realms.proofs.ArtifactNameLemmas.{are_parts, parts_of, pieces_of, regrouped}

-- a text without a slash is none with one
cut_apart : (p q t : List ℕ) → Lacks 47 p → Lacks 47 q → p ≡ q ++ 47 ∷ t → ⊥
cut_apart p q t no_p no_q e =
    let place : length p ≡ length q = sym (no_cut 47 p no_p) ∙ ap slash_place e ∙ cut_before 47 q t no_q in
    omega (arith, place, ap length e, length-append q (47 ∷ t))

pub one_invocation_named : OneInvocationNamed
one_invocation_named id other text is is' = append_cancel_left (codes "invocations/") id other (sym is.0 ∙ is'.0)

-- the parts of a result's name

pub one_result_named : OneResultNamed
unfolding result_name
one_result_named r s text is is' =
    let same = one_list_of_parts piece.Invocation (piece.Test ∷ piece.Result ∷ []) (result_parts r) (result_parts s) refl (IsResultName-parts r text is) (IsResultName-parts s text is') (sym is.spelling ∙ is'.spelling) in
    let first : r.invocation ≡ s.invocation = cc in
    let second : r.test ≡ s.test = cc in
    let third : r.result ≡ s.result = cc in
    λ i. record { invocation = first i; test = second i; result = third i }

-- an invocation is named as no result is
invocation_or_result : (id : List ℕ) (r : ResultName) (text : List ℕ) → IsInvocationName id text → IsResultName r text → ⊥
unfolding result_name
invocation_or_result id r text is is' =
    let all = append_cancel_left (codes "invocations/") id (r.invocation ++ name_text (piece.Test ∷ piece.Result ∷ []) (r.test ∷ r.result ∷ [])) (sym is.0 ∙ is'.spelling) in
    cut_apart id r.invocation _ (invocation_without_slash id is.1) (invocation_without_slash r.invocation is'.invocation) all

pub one_parent_named : OneParentNamed
one_parent_named (parent.Invocation id) (parent.Invocation other) text is is' = ap parent.Invocation (one_invocation_named id other text is is')
one_parent_named (parent.Invocation id) (parent.Result s) text is is' = absurd (invocation_or_result id s text is is')
one_parent_named (parent.Result r) (parent.Invocation id) text is is' = absurd (invocation_or_result id r text is' is)
one_parent_named (parent.Result r) (parent.Result s) text is is' = ap parent.Result (one_result_named r s text is is')

-- the parts of an artifact's name

of_either : (id : List ℕ) (r : ResultName) (x y : List ℕ) → IsInvocationId id → IsInvocationId r.invocation → name_text short_pieces (id ∷ x ∷ []) ≡ name_text long_pieces (r.invocation ∷ r.test ∷ r.result ∷ y ∷ []) → ⊥
of_either id r x y is is' e =
    let long = name_text (piece.Test ∷ piece.Result ∷ piece.Artifact ∷ []) (r.test ∷ r.result ∷ y ∷ []) in
    let all = append_cancel_left (codes "invocations/") (id ++ piece_text piece.Artifact x) (r.invocation ++ long) e in
    let cut = cut_alike 47 id r.invocation _ _ (invocation_without_slash id is) (invocation_without_slash r.invocation is') all in
    let behind : 97 ≡ 116 = ap (λ (t : List ℕ). get_or t 1 0) cut.1 in
    omega (arith, behind)

of_parents : (p q : Parent) (text other x y : List ℕ) → IsParentName p text → IsParentName q other → IsArtifactId x → IsArtifactId y → name_text (pieces_of p) (parts_of p x) ≡ name_text (pieces_of q) (parts_of q y) → (p ≡ q) × (x ≡ y)
of_parents (parent.Invocation id) (parent.Invocation same) text other x y is is' ax ay e =
    let parts = one_list_of_parts piece.Invocation (piece.Artifact ∷ []) (id ∷ x ∷ []) (same ∷ y ∷ []) refl (are_parts (parent.Invocation id) text x is ax) (are_parts (parent.Invocation same) other y is' ay) e in
    let ids : id ≡ same = cc in
    let artifacts : x ≡ y = cc in (ap parent.Invocation ids, artifacts)
of_parents (parent.Invocation id) (parent.Result s) text other x y is is' ax ay e = absurd (of_either id s x y is.1 is'.invocation e)
of_parents (parent.Result r) (parent.Invocation id) text other x y is is' ax ay e = absurd (of_either id r y x is'.1 is.invocation (sym e))
of_parents (parent.Result r) (parent.Result s) text other x y is is' ax ay e =
    let parts = one_list_of_parts piece.Invocation (piece.Test ∷ piece.Result ∷ piece.Artifact ∷ []) (parts_of (parent.Result r) x) (parts_of (parent.Result s) y) refl (are_parts (parent.Result r) text x is ax) (are_parts (parent.Result s) other y is' ay) e in
    let first : r.invocation ≡ s.invocation = cc in
    let second : r.test ≡ s.test = cc in
    let third : r.result ≡ s.result = cc in
    let artifacts : x ≡ y = cc in
    (ap parent.Result (λ i. record { invocation = first i; test = second i; result = third i }), artifacts)

pub one_artifact_named : OneArtifactNamed
unfolding artifact_name
one_artifact_named a b text is is' =
    let both = of_parents a.parent b.parent _ _ a.artifact b.artifact is.parent is'.parent is.artifact is'.artifact (sym (regrouped a.parent a.artifact) ∙ sym is.spelling ∙ is'.spelling ∙ regrouped b.parent b.artifact) in
    λ i. record { parent = both.0 i; artifact = both.1 i }
