use Rattle.std.proofs.Common.{refl}
use Rattle.invocation_world.specs.States.{WorldState}
use Rattle.service_effects.specs.declared.tables.Tables.{Tables}
use Rattle.service_effects.proofs.DoneFacts.{done_add, done_artifacts, done_end, done_exonerations, done_include, done_nothing, done_results, done_update}
use Rattle.service_effects.proofs.doing.carry_out.Goals as goal

-- the tables with this world
abbrev with_world : Tables → WorldState → Tables
with_world tables world =
    record { world = world; results = tables.results; exonerations = tables.exonerations; artifacts = tables.artifacts }

pub returns-in-Nothing : goal.returns-in-Nothing
returns-in-Nothing c =
    done_nothing c.args.tables.now c.args.change.moment c.args.change.effect c.args.tables.now c.requires c.in-Nothing.is refl

pub returns-in-Add : goal.returns-in-Add
returns-in-Add c =
    done_add c.args.tables.now c.args.change.moment c.args.change.effect (with_world c.args.tables.now c.add_prepared.new.self) c.requires refl
    refl refl c.in-Add.row c.in-Add.is c.add_prepared.ensures.world

pub returns-in-Update : goal.returns-in-Update
returns-in-Update c =
    done_update c.args.tables.now c.args.change.moment c.args.change.effect (with_world c.args.tables.now c.update.new.self) c.requires refl refl refl
    c.in-Update.place c.in-Update.deadline c.in-Update.tags c.in-Update.is c.update.ensures.world

pub returns-in-End : goal.returns-in-End
returns-in-End c =
    done_end c.args.tables.now c.args.change.moment c.args.change.effect (with_world c.args.tables.now c.retire.new.self) c.requires refl refl refl
    _ c.in-End.is c.retire.ensures.world

pub returns-in-Include : goal.returns-in-Include
returns-in-Include c =
    done_include c.args.tables.now c.args.change.moment c.args.change.effect (with_world c.args.tables.now c.include.new.self) c.requires refl
    refl refl c.in-Include.plan c.in-Include.is c.include.ensures.world

pub returns-in-Results : goal.returns-in-Results
returns-in-Results c =
    done_results c.args.tables.now c.args.change.moment c.args.change.effect
    (record {
      world = c.note_change.new.self;
      results = c.commit.new.self;
      exonerations = c.args.tables.now.exonerations;
      artifacts = c.args.tables.now.artifacts;
    }) c.requires c.in-Results.batch c.in-Results.is c.note_change.ensures.world c.commit.ensures.rows refl refl

pub returns-in-Exonerations : goal.returns-in-Exonerations
returns-in-Exonerations c =
    done_exonerations c.args.tables.now c.args.change.moment c.args.change.effect
    (record {
      world = c.note_change-in-Exonerations.new.self;
      results = c.args.tables.now.results;
      exonerations = c.commit-in-Exonerations.new.self;
      artifacts = c.args.tables.now.artifacts;
    }) c.requires c.in-Exonerations.batch c.in-Exonerations.is c.note_change-in-Exonerations.ensures.world refl
    c.commit-in-Exonerations.ensures.rows refl

pub returns-in-Artifacts : goal.returns-in-Artifacts
returns-in-Artifacts c =
    done_artifacts c.args.tables.now c.args.change.moment c.args.change.effect
    (record {
      world = c.note_change-in-Artifacts.new.self;
      results = c.args.tables.now.results;
      exonerations = c.args.tables.now.exonerations;
      artifacts = c.commit-in-Artifacts.new.self;
    }) c.requires c.in-Artifacts.batch c.in-Artifacts.is c.note_change-in-Artifacts.ensures.world refl refl
    c.commit-in-Artifacts.ensures.rows
