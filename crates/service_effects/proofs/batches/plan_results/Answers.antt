use Rattle.std.proofs.Common.{codes, refl, subst}
use Rattle.test_results.specs.Batches.{IsBatchFault, given}
use Rattle.test_results.specs.declared.faults.BatchFault.TheVariants as batch_fault
use Rattle.service_effects.specs.Refused.{table_full}
use Rattle.service_effects.proofs.BatchFacts.{results_refused}
use Rattle.service_effects.proofs.batches.plan_results.Goals as goal

pub returns-in-Err-Full-clause-planned : goal.returns-in-Err-Full-clause-planned
returns-in-Err-Full-clause-planned c =
    let old = c.args.tables.now.results.rows in
    let holder = c.args.holder in
    let batch = given holder c.args.rows.items in
    results_refused
    (record { world = c.args.tables.now.world; results = c.prepare_batch.new.self; exonerations = c.args.tables.now.exonerations; artifacts = c.args.tables.now.artifacts })
    old c.args.rows.items holder (batch_fault.Full c.in-Err-Full.count) (table_full (codes "results") c.in-Err-Full.count) c.requires.some
    c.in-Err-Full.ensures.rows (subst (IsBatchFault old holder batch) c.in-Err-Full.field-0-is c.in-Err-Full.ensures.fault) refl
