use Rattle.std.proofs.Common.{◌≡◌, List, ℕ, ◌∷◌, string_bytes, sym, ap, subst, ◌∙◌}
use Rattle.name_parts.specs.Pieces.{AreParts, name_text}
use Rattle.names_realms.specs.declared.parents.Parent.TheVariants as parent
use Rattle.names_realms.specs.ArtifactNames.{IsArtifactName, short_pieces}
use Rattle.names_realms.proofs.ArtifactNameLemmas.{short_named}
use Rattle.names_realms.proofs.artifact_names.of_invocation.Goals as goal

pub returns : goal.returns
returns c =
    let x : List ℕ = string_bytes c.take_first-invocation.result in
    let y : List ℕ = string_bytes c.take_first-artifact.result in
    let whole : c.args.parts ≡ x ∷ y ∷ c.take_first-artifact.new.self = c.take_first-invocation.ensures ∙ ap (λ (ps : List (List ℕ)). x ∷ ps) c.take_first-artifact.ensures in
    rw (c.of_text.ensures, c.of_text-2.ensures)
    (subst (λ (ps : List (List ℕ)). IsArtifactName (record { parent = parent.Invocation x; artifact = y }) (name_text short_pieces ps)) (sym whole)
    (short_named x y c.take_first-artifact.new.self (subst (λ (ps : List (List ℕ)). AreParts short_pieces ps) whole c.requires)))
