use Rattle.std.proofs.Common.{codes, refl, subst}
use Rattle.artifacts.specs.Batches.{IsBatchFault, of_holder}
use Rattle.artifacts.specs.declared.faults.ArtifactFault.TheVariants as file
use Rattle.service_effects.specs.Refused.{table_full}
use Rattle.service_effects.proofs.FileFacts.{artifacts_refused}
use Rattle.service_effects.proofs.artifact_batches.plan_artifacts.Goals as goal

pub returns-in-Err-Full-clause-planned : goal.returns-in-Err-Full-clause-planned
returns-in-Err-Full-clause-planned c =
    let old = c.args.tables.now.artifacts.rows in
    let holder = c.args.holder in
    let batch = of_holder holder c.args.rows in
    artifacts_refused
    (record {
      world = c.args.tables.now.world;
      results = c.args.tables.now.results;
      exonerations = c.args.tables.now.exonerations;
      artifacts = c.prepare_batch.new.self;
    })
    old c.args.rows holder (file.Full c.in-Err-Full.count) (table_full (codes "artifacts") c.in-Err-Full.count) c.requires
    c.in-Err-Full.ensures.rows (subst (IsBatchFault old holder batch) c.in-Err-Full.field-0-is c.in-Err-Full.ensures.fault) refl
