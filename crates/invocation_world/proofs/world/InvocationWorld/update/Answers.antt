use Rattle.std.proofs.Common.{◌≤ℤ◌, List, None, ◌∙◌, ap, refl, sym, subst}
use Rattle.std.specs.List.{slice_get}
use Rattle.names_realms.specs.declared.states.State.{State}
use Rattle.names_realms.specs.declared.states.State.TheVariants.{Active}
use Rattle.invocations.specs.declared.invocation.Invocation.{Invocation}
use Rattle.invocations.specs.Rows.{IsInState, states_of}
use Rattle.invocation_world.specs.Advancing.{AreQuiet}
use Rattle.invocation_world.specs.Changes.{updated, with_update}
use Rattle.invocation_world.specs.Parts.{world_of}
use Rattle.invocation_world.specs.States.{WorldState}
use Rattle.invocation_world.specs.World.{IsValid}
use Rattle.invocation_world.proofs.ChangeFacts.{states_stay, valid_updated}
use Rattle.invocation_world.proofs.CodeFacts.{update_is, updated_twice}
use Rattle.invocation_world.proofs.world.InvocationWorld.update.Goals as goal

pub set_tags-requires : goal.set_tags-requires
set_tags-requires c =
    let rows = c.self.inside.table.rows in
    let active = subst (λ (s : WorldState). IsInState Active s.world.invocations c.args.place) (sym c.self.view_is) c.requires.active in
    subst (λ (rs : List Invocation). IsInState Active rs c.args.place) (sym c.set_deadline.ensures.rows)
    (ap (λ (ss : List State). slice_get ss c.args.place) (states_stay (updated c.args.deadline None) (λ row. refl) rows c.args.place) ∙ active)

pub invariant_of-self : goal.invariant_of-self
invariant_of-self c =
    let rows = c.self.inside.table.rows in
    let moment = c.args.moment in
    let change = updated c.args.deadline c.args.tags in
    let view = sym c.self.view_is in
    let active = subst (λ (s : WorldState). IsInState Active s.world.invocations c.args.place) view c.requires.active in
    let later = subst (λ (s : WorldState). s.world.last ≤ℤ moment) view c.requires.later in
    let quiet = subst (λ (s : WorldState). AreQuiet s.world.invocations moment) view c.requires.quiet in
    let valid = valid_updated (world_of c.self.inside.table c.self.inside.finaliser c.self.inside.last) moment c.args.place c.args.deadline
    c.args.tags c.self.invariant.valid active c.requires.ahead c.requires.pairs c.requires.moment later quiet in
    let new = updated_twice c.args.deadline c.args.tags rows c.set_deadline.new.table.rows c.set_tags.new.table.rows c.args.place
    c.set_deadline.ensures.rows c.set_tags.ensures.rows in
    record {
      valid = subst (λ (rs : List Invocation). IsValid (record { invocations = rs; inclusions = c.self.inside.finaliser.graph.edges; last = moment }))
          (sym new) valid;
      linked = record {
        states = c.self.invariant.linked.states ∙ sym (ap states_of new ∙ states_stay change (λ row. refl) rows c.args.place);
        finals = c.self.invariant.linked.finals;
      };
    }

pub returns-clause-world : goal.returns-clause-world
returns-clause-world c =
    let rows = c.self.inside.table.rows in
    let w = world_of c.self.inside.table c.self.inside.finaliser c.self.inside.last in
    let new = updated_twice c.args.deadline c.args.tags rows c.set_deadline.new.table.rows c.set_tags.new.table.rows c.args.place
    c.set_deadline.ensures.rows c.set_tags.ensures.rows in
    update_is c.args.moment c.args.place c.args.deadline c.args.tags w c.row.result.now c.set_tags.new.table.rows c.row.ensures
    (sym c.is_update.ensures ∙ c.if-not-is_update.false) new
    ∙ ap (λ (s : WorldState). with_update c.args.moment c.args.place c.args.deadline c.args.tags s.world) c.self.view_is
