use Rattle.request_effects.proofs.DoneFacts.{edges_full}
use Rattle.request_effects.proofs.planning.plan_edges.Goals as goal

pub returns-in-Err-Full-clause-planned : goal.returns-in-Err-Full-clause-planned
returns-in-Err-Full-clause-planned c =
    edges_full c.args.tables.now.world (record { world = c.prepare_inclusions.new.self; results = c.args.tables.now.results; exonerations = c.args.tables.now.exonerations; artifacts = c.args.tables.now.artifacts }) c.args.place c.args.targets.now c.in-Err-Full.field-0 c.in-Err-Full.count
    c.requires.valid c.prepare_inclusions.ensures.roomier.world c.in-Err-Full.field-0-is c.in-Err-Full.ensures.fault
