use Rattle.request_effects.proofs.AheadFacts.{added_stands, ended_stands, nothing_stands, updated_stands}
use Rattle.request_effects.proofs.ahead.Ahead.row.Goals as goal

pub returns-in-Nothing : goal.returns-in-Nothing
returns-in-Nothing c after acts =
    nothing_stands c.args.self.now.tables.now.world.world c.args.self.now.moment c.args.self.now.effect.now after c.args.place c.row.result.now c.standing.result c.in-Nothing.is c.requires.foresees.timely
    c.row.ensures.row c.standing.ensures acts

pub returns-in-Add : goal.returns-in-Add
returns-in-Add c after acts =
    added_stands c.args.self.now.tables.now.world.world c.args.self.now.moment c.args.self.now.effect.now after c.args.place _ c.standing-in-Add.result c.in-Add.is c.requires.foresees.suits c.requires.here
    c.standing-in-Add.ensures acts

pub returns-in-Update : goal.returns-in-Update
returns-in-Update c after acts =
    updated_stands c.args.self.now.tables.now.world.world c.args.self.now.moment c.args.self.now.effect.now after c.args.place _ _ _ c.row-in-Update.result.now c.updated.result c.in-Update.is c.requires.foresees.suits
    c.requires.here c.row-in-Update.ensures.row c.updated.ensures acts

pub returns-in-End : goal.returns-in-End
returns-in-End c after acts =
    ended_stands c.args.self.now.tables.now.world.world c.args.self.now.moment c.args.self.now.effect.now after c.args.place _ c.row-in-End.result.now c.ended.result c.args.self.now.is_final c.in-End.is
    c.requires.foresees.suits c.requires.foresees.told c.requires.here c.row-in-End.ensures.row c.ended.ensures acts
