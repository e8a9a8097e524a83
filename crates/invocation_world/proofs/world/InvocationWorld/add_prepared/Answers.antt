use Rattle.std.proofs.Common.{◌≤ℤ◌, ◌++◌, ◌∷◌, [], List, ap, ◌∙◌, sym, subst}
use Rattle.std.proofs.lemmas.List.{map_push}
use Rattle.names_realms.specs.declared.states.State.{State}
use Rattle.inclusion_graph.specs.declared.edge.Edge.{Edge}
use Rattle.invocations.specs.declared.invocation.Invocation.{Invocation}
use Rattle.invocations.specs.Faults.{CanAdd}
use Rattle.invocations.specs.Rows.{states_of}
use Rattle.invocation_world.specs.Advancing.{AreQuiet}
use Rattle.invocation_world.specs.Parts.{world_of}
use Rattle.invocation_world.specs.States.{WorldState}
use Rattle.invocation_world.specs.World.{IsValid}
use Rattle.invocation_world.proofs.ChangeFacts.{valid_added}
use Rattle.invocation_world.proofs.world.InvocationWorld.add_prepared.Goals as goal

pub invariant_of-self : goal.invariant_of-self
invariant_of-self c =
    let table = c.self.inside.table in
    let row = c.args.row in
    let view = sym c.self.view_is in
    let can = subst (λ (s : WorldState). CanAdd s.world.invocations row.id) view c.requires.can in
    let later = subst (λ (s : WorldState). s.world.last ≤ℤ row.created) view c.requires.later in
    let quiet = subst (λ (s : WorldState). AreQuiet s.world.invocations row.created) view c.requires.quiet in
    let valid = valid_added (world_of table c.self.inside.finaliser c.self.inside.last) row c.self.invariant.valid can c.requires.is_row
    c.requires.active c.requires.moment later quiet in
    record {
      valid = subst (λ (rs : List Invocation). IsValid (record { invocations = rs; inclusions = c.add_active.new.self.graph.edges; last = row.created }))
          (sym c.add_prepared.ensures.roomier.rows)
          (subst (λ (es : List Edge). IsValid (record { invocations = table.rows ++ row ∷ []; inclusions = es; last = row.created })) (sym c.add_active.ensures.roomier.graph.edges) valid);
      linked = record {
        states = c.add_active.ensures.roomier.states ∙ ap (λ (ss : List State). ss ++ _ ∷ []) c.self.invariant.linked.states
            ∙ ap (λ (s : State). states_of table.rows ++ s ∷ []) (sym c.requires.active)
            ∙ sym (map_push (λ (r : Invocation). r.state) table.rows row)
            ∙ ap states_of (sym c.add_prepared.ensures.roomier.rows);
        finals = c.add_active.ensures.roomier.finals ∙ c.self.invariant.linked.finals;
      };
    }
