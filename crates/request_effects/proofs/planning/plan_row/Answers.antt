use Rattle.service_effects.specs.States.{recorded_in}
use Rattle.request_effects.proofs.DoneFacts.{row_free, row_ready, row_taken}
use Rattle.request_effects.proofs.planning.plan_row.Goals as goal

pub returns-in-Ok-clause-planned : goal.returns-in-Ok-clause-planned
returns-in-Ok-clause-planned c =
    row_ready (recorded_in c.args.tables.now) (record { world = c.prepare_add.new.self; results = c.args.tables.now.results; exonerations = c.args.tables.now.exonerations; artifacts = c.args.tables.now.artifacts }) c.args.moment c.args.name.now c.args.q c.in_ok-row.row c.prepare_add.ensures.roomier.world
    c.requires.timely c.requires.safe c.in_ok-row.ensures c.in-Ok.ensures.can c.in-Ok.ensures.room

pub unreachable-requires : goal.unreachable-requires
unreachable-requires c =
    row_taken c.args.tables.now.world.world.invocations c.in_ok-row.row.id c.in-Err-Taken.field-0 c.in-Err-Taken.field-0-0 c.in-Err-Taken.field-0-is
    c.in-Err-Taken.ensures.fault
    (row_free c.args.tables.now.world.world c.args.moment c.args.name.now c.args.q c.in_ok-row.row c.requires.safe c.in_ok-row.ensures)
