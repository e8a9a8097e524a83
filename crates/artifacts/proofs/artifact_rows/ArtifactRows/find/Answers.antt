use Rattle.std.proofs.Common.{ℕ, List, sym, subst}
use Rattle.artifacts.specs.declared.artifact.Artifact.{Artifact}
use Rattle.artifacts.specs.Orders.{IsKeyIndex}
use Rattle.artifacts.specs.Artifacts.{keys_of}
use Rattle.artifacts.proofs.artifact_rows.ArtifactRows.find.Goals as goal

pub place_of-requires : goal.place_of-requires
place_of-requires c =
    subst (λ (rs : List Artifact). IsKeyIndex (keys_of rs) c.args.holder c.list.result.now) (sym c.as_slice.ensures.value)
    (subst (λ (ps : List ℕ). IsKeyIndex (keys_of c.self.inside.rows.items) c.args.holder ps) (sym c.list.ensures) (c.self.invariant.0.index c.args.holder))
