use Rattle.std.proofs.Common.{List, sym, ap, subst, ◌∙◌}
use Rattle.invocations.specs.declared.invocation.Invocation.{Invocation}
use Rattle.service_core.specs.RequestRules.Again.{IsRight}
use Rattle.service_core.specs.RequestRules.Locating.{located}
use Rattle.service_core.specs.RequestDemands.Demands.{demand_of}
use Rattle.service_core.specs.RequestEffects.Places.{held_in}
use Rattle.service_effects.specs.declared.tables.Tables.{Tables}
use Rattle.service_effects.specs.States.{recorded_in}
use Rattle.service_replay.proofs.replaying.right_places.Goals as goal

pub returns-then-is_right-clause-places : goal.returns-then-is_right-clause-places
returns-then-is_right-clause-places c =
    let d = demand_of c.args.request.now in
    c.in_ok-places.ensures
    ∙ (ap (λ (rows : List Invocation). located rows (held_in (recorded_in c.tables-tables.result.now)) d)
    (c.table-table.ensures.rows ∙ ap (λ (t : Tables). t.world.world.invocations) c.tables-tables.ensures)
    ∙ ap (λ (t : Tables). located c.args.core.now.held.world.world.invocations (held_in (recorded_in t)) d) c.tables-tables.ensures)

pub returns-then-is_right-clause-right : goal.returns-then-is_right-clause-right
returns-then-is_right-clause-right c =
    let d = demand_of c.args.request.now in
    let held = held_in (recorded_in c.tables-tables.result.now) in
    subst (λ (t : Tables). IsRight t.world.world.invocations (held_in (recorded_in t)) c.args.call.now.moment d) c.tables-tables.ensures
    (subst (λ (rows : List Invocation). IsRight rows held c.args.call.now.moment d) c.table-table.ensures.rows
    (c.if-is_right.ensures held c.in_ok-places.ensures))

pub returns-else-is_right-clause-refused : goal.returns-else-is_right-clause-refused
returns-else-is_right-clause-refused c = λ is right.
    let d = demand_of c.args.request.now in
    let held = held_in (recorded_in c.tables-tables.result.now) in
    c.if-is_right.ensures held c.in_ok-places.ensures
    (subst (λ (rows : List Invocation). IsRight rows held c.args.call.now.moment d) (sym c.table-table.ensures.rows)
    (subst (λ (t : Tables). IsRight t.world.world.invocations (held_in (recorded_in t)) c.args.call.now.moment d)
    (sym c.tables-tables.ensures) right))
