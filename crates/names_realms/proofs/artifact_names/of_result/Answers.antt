use Rattle.std.proofs.Common.{◌≡◌, List, ℕ, ◌∷◌, string_bytes, sym, ap, subst, ◌∙◌}
use Rattle.name_parts.specs.Pieces.{AreParts, name_text}
use Rattle.names_realms.specs.declared.parents.Parent.TheVariants as parent
use Rattle.names_realms.specs.ArtifactNames.{IsArtifactName, long_pieces}
use Rattle.names_realms.proofs.ArtifactNameLemmas.{long_named}
use Rattle.names_realms.proofs.artifact_names.of_result.Goals as goal

pub returns : goal.returns
returns c =
    let x : List ℕ = string_bytes c.take_first-invocation.result in
    let y : List ℕ = string_bytes c.take_first-test.result in
    let z : List ℕ = string_bytes c.take_first-result.result in
    let w : List ℕ = string_bytes c.take_first-artifact.result in
    let rest : List (List ℕ) = c.take_first-artifact.new.self in
    let whole : c.args.parts ≡ x ∷ y ∷ z ∷ w ∷ rest =
    c.take_first-invocation.ensures ∙ ap (λ (ps : List (List ℕ)). x ∷ ps) c.take_first-test.ensures
    ∙ ap (λ (ps : List (List ℕ)). x ∷ y ∷ ps) c.take_first-result.ensures ∙ ap (λ (ps : List (List ℕ)). x ∷ y ∷ z ∷ ps) c.take_first-artifact.ensures in
    rw (c.of_text.ensures, c.of_text-2.ensures, c.of_text-3.ensures, c.of_text-4.ensures)
    (subst (λ (ps : List (List ℕ)). IsArtifactName (record { parent = parent.Result (record { invocation = x; test = y; result = z }); artifact = w }) (name_text long_pieces ps)) (sym whole)
    (long_named x y z w rest (subst (λ (ps : List (List ℕ)). AreParts long_pieces ps) whole c.requires)))
