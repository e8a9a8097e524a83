use Rattle.std.proofs.Common.{◌≡◌, ◌<◌, ℕ, List, length, sym, ap, ◌∙◌, subst}
use Rattle.std.specs.Prelude.{option_map}
use Rattle.std.specs.List.{All}
use Rattle.artifacts.specs.declared.artifact.Artifact.{Artifact}
use Rattle.artifacts.specs.Artifacts.{ArtifactsState}
use Rattle.artifacts.specs.Pages.{IsListing}
use Rattle.artifacts.proofs.PageLemmas.{page_within}
use Rattle.artifacts.proofs.artifact_rows.ArtifactRows.list.Goals as goal

pub returns-clause-within : goal.returns-clause-within
returns-clause-within c =
    let rows = c.args.self.now.rows in
    let parent = c.args.parent.now in
    let after = option_map (λ a. a.now) c.args.after in
    let all = c.listing.result.now in
    let same : c.as_slice.result.now ≡ rows = c.as_slice.ensures.value ∙ ap (λ (t : ArtifactsState). t.rows) c.self.view_is in
    let listing = subst (λ (rs : List Artifact). IsListing rs c.args.holder parent after all) same c.listing.ensures in
    subst (λ (ps : List ℕ). All (λ place. place < length rows) ps) (sym c.page_of.ensures.rows)
    (page_within rows c.args.holder parent after all c.args.size listing)
