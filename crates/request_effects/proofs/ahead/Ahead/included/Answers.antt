use Rattle.request_effects.proofs.AheadFacts.{added_includes, ended_includes, nothing_includes, updated_includes}
use Rattle.request_effects.proofs.ahead.Ahead.included.Goals as goal

pub returns-in-Nothing-clause-targets : goal.returns-in-Nothing-clause-targets
returns-in-Nothing-clause-targets c after acts =
    nothing_includes c.args.self.now.tables.now.world.world c.args.self.now.moment c.args.self.now.effect.now after c.args.place c.included.result.now c.in-Nothing.is c.requires.foresees.timely c.included.ensures.targets acts

pub returns-in-Add-clause-targets : goal.returns-in-Add-clause-targets
returns-in-Add-clause-targets c after acts =
    added_includes c.args.self.now.tables.now.world.world c.args.self.now.moment c.args.self.now.effect.now after c.args.place _ c.in-Add.is c.requires.foresees.timely c.requires.here acts

pub returns-in-Update-clause-targets : goal.returns-in-Update-clause-targets
returns-in-Update-clause-targets c after acts =
    updated_includes c.args.self.now.tables.now.world.world c.args.self.now.moment c.args.self.now.effect.now after c.args.place _ _ _ c.included-in-Update.result.now c.in-Update.is c.requires.foresees.suits
    c.included-in-Update.ensures.targets acts

pub returns-in-End-clause-targets : goal.returns-in-End-clause-targets
returns-in-End-clause-targets c after acts =
    ended_includes c.args.self.now.tables.now.world.world c.args.self.now.moment c.args.self.now.effect.now after c.args.place _ c.included-in-End.result.now c.in-End.is
    c.included-in-End.ensures.targets acts
