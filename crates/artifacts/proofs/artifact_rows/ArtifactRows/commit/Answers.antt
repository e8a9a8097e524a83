use Rattle.std.proofs.Common.{◌≤◌, ◌+◌, ◌++◌, List, length, sym, ap, ◌∙◌, subst}
use Rattle.artifacts.specs.declared.artifact.Artifact.{Artifact}
use Rattle.artifacts.specs.Batches.{Fits}
use Rattle.artifacts.specs.Artifacts.{room_for}
use Rattle.artifacts.specs.Requests.{DigestedState}
use Rattle.artifacts.proofs.artifact_rows.ArtifactRows.commit.Goals as goal

pub append_all-requires : goal.append_all-requires
append_all-requires c =
    subst (λ (rows : List Artifact). Fits c.args.self.now rows)
    (sym (c.into_rows.ensures.rows ∙ ap (λ (b : DigestedState). b.rows) c.batch.view_is)) c.requires

pub returns-clause-rows : goal.returns-clause-rows
returns-clause-rows c =
    c.append_all.ensures.rows
    ∙ ap (λ (rows : List Artifact). c.args.self.now.rows ++ rows)
    (c.into_rows.ensures.rows ∙ ap (λ (b : DigestedState). b.rows) c.batch.view_is)

pub returns-clause-rooms : goal.returns-clause-rooms
returns-clause-rooms c other =
    subst (λ (rows : List Artifact). room_for c.args.self.now other ≤ room_for c.append_all.new.self other + length rows)
    (c.into_rows.ensures.rows ∙ ap (λ (b : DigestedState). b.rows) c.batch.view_is)
    (c.append_all.ensures.rooms other)
