use Rattle.std.proofs.Common.{length, codes, refl, subst}
use Rattle.test_results.specs.Exonerations as exonerations
use Rattle.test_results.specs.declared.faults.BatchFault.TheVariants as batch_fault
use Rattle.test_results.proofs.ExonerationLemmas.{given_length}
use Rattle.service_effects.specs.Refused.{table_full, too_many}
use Rattle.service_effects.proofs.BatchFacts.{exonerations_refused}
use Rattle.service_effects.proofs.batches.plan_exonerations.Goals as goal

pub returns-in-Err-TooMany-clause-planned : goal.returns-in-Err-TooMany-clause-planned
returns-in-Err-TooMany-clause-planned c =
    let old = c.args.tables.now.exonerations.rows in
    let holder = c.args.holder in
    let rows = c.args.rows.items in
    let before = length (exonerations.places_in old holder) in
    exonerations_refused (record { world = c.args.tables.now.world; results = c.args.tables.now.results; exonerations = c.prepare_batch.new.self; artifacts = c.args.tables.now.artifacts })
    old rows holder before (batch_fault.TooMany c.in-Err-TooMany.count) (too_many c.in-Err-TooMany.count) c.requires c.in-Err-TooMany.ensures.rows
    (given_length holder before rows)
    (subst (exonerations.IsBatchFault old holder (length rows)) c.in-Err-TooMany.field-0-is c.in-Err-TooMany.ensures.fault) refl

pub returns-in-Err-Full-clause-planned : goal.returns-in-Err-Full-clause-planned
returns-in-Err-Full-clause-planned c =
    let old = c.args.tables.now.exonerations.rows in
    let holder = c.args.holder in
    let rows = c.args.rows.items in
    let before = length (exonerations.places_in old holder) in
    exonerations_refused (record { world = c.args.tables.now.world; results = c.args.tables.now.results; exonerations = c.prepare_batch.new.self; artifacts = c.args.tables.now.artifacts })
    old rows holder before (batch_fault.Full c.in-Err-Full.count) (table_full (codes "exonerations") c.in-Err-Full.count) c.requires
    c.in-Err-Full.ensures.rows (given_length holder before rows)
    (subst (exonerations.IsBatchFault old holder (length rows)) c.in-Err-Full.field-0-is c.in-Err-Full.ensures.fault) refl
